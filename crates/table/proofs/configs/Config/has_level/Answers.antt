use Rattle.table.specs.Configuration.{configured_of}
use borrow.Author.Rules.{rules}
use Rattle.table.proofs.configs.Config.has_level.Goals as goal

pub returns : goal.returns
unfolding configured_of
returns c = search rules
