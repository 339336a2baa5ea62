-- Document 01, "Messages": "Buffers are first in, first out". What goes into a buffer and what comes out of it, over any sequence of puts and takes.
use Rattle.std.specs.Prelude.{List, [], ◌∷◌, ◌++◌, ℕ, ◌≤◌, ◌≡◌, eqb, length, is_some, unwrap_or}
use Rattle.common.specs.Choice.{pick}
use Rattle.process.specs.declared.buffers.Message.{Message}
use Rattle.process.specs.declared.buffers.Buffer.{Buffer}
use Rattle.process.specs.Messages.{put_of, oldest_of, rest_of}

pub data Step : Type 0 where
  -- a message is put, if one of the places is left
  putting : Message → Step
  -- the oldest message is taken, if there is one
  taking : Step

module _ (places : ℕ) where
  abbrev pub step_of : Step → Buffer → Buffer
  step_of (putting m) b = unwrap_or (put_of b places m) b
  step_of taking b = rest_of b

  -- the message that a step finds a place for
  abbrev pub in_of : Step → Buffer → List Message
  in_of (putting m) b = pick (is_some (put_of b places m)) (m ∷ []) []
  in_of taking b = []

  -- the message that a step hands out
  abbrev pub out_of : Step → Buffer → List Message
  out_of (putting m) b = []
  out_of taking b = pick (eqb b.list.count 0) [] (oldest_of b ∷ [])

  -- the buffer after a sequence of steps, and the messages that went in and came out on the way, in order
  abbrev pub after_of : List Step → Buffer → Buffer
  after_of [] b = b
  after_of (s ∷ steps) b = after_of steps (step_of s b)

  abbrev pub ins_of : List Step → Buffer → List Message
  ins_of [] b = []
  ins_of (s ∷ steps) b = in_of s b ++ ins_of steps (step_of s b)

  abbrev pub outs_of : List Step → Buffer → List Message
  outs_of [] b = []
  outs_of (s ∷ steps) b = out_of s b ++ outs_of steps (step_of s b)

-- a buffer of sixteen places with no more messages than that
pub record Whole (b : Buffer) : Type 0 where
  pub places : length b.list.items ≡ 16
  pub within : b.list.count ≤ 16
