-- A process's record in memory and behind a reference: what a walk by hand of a function that is lent a record would stand on.
-- The record's machine value is never spelled out below its four fields: all that is said of it comes from the laws that are made of the struct's declaration.
--     value, values    the one machine value of a record, and the list with it alone
--     Stands           the record and its machine value belong together: each field has a value that its type allows
--     typed            such a value has the MIR type of a Process, which is what a store of it asks
--     makes-owned      what a Process owns is had for nothing of a record that stands, since a record holds plain data alone
--     reference        the reference to a record at a place, under a ghost name, as a contract sees it
--     refers           what is owned of that reference
--     cell_of           the memory at a place, as it is seen behind a reference, where no type has a name
--     cell_known       whatever machine values lie there and are a record's: they are its `values`, and the record stands
--     lies_of_cell     a local that holds a record that stands is memory in which the record lies, which is what can be lent
--     cell_of_lies     and back, once the loan is over
-- 𝓤 is what can be owned in any model of the logic, 𝓛 the rules that it obeys, γ a ghost name.
-- Assumes nothing.
use Prim.Native.Nat.{ℕ}
use mathlib.Core.List.{[], ◌∷◌, List}
use lib.Dec.{T as Holds}
use seplogic.Ra.Ura.{Ura}
use base.Fraction.{full_share}
use mir.Syntax.{named}
use mir.Val.{Val, WT, has_ty, vptr}
use base.Logic.{ent, sep, guard}
use base.Fml.{GName, Lft, Fml, fat, fsep}
use types.Logic.{Logic, sem}
use types.Kit.{‵, given, ◌$◌, ◌∵◌, !, qed, move, use1, use2, learn, fsplit, fjoin, fpick, fpack, check, drop, done}
use denote.Laws.{Is, Makes, shows}
use denote.Memory.{cell_at, mem, part_of}
use denote.Ref.{MutBor, MutRef}
use denote.Steps.{owned, peeks}
use denote.Struct.Steps.{spelt}
use denote.Struct.Laws as structs
use Rattle.process.specs.declared.Process.{Process}
use Rattle.process.specs.contracts.Process as process
use Rattle.process.proofs.Process.TheLaws as laws

abbrev pub value : Process → Val
value p = structs.val process.the_type laws.the_laws p

abbrev pub values : Process → List Val
values p = value p ∷ []

abbrev pub Stands : Process → Type 0
Stands p = Is process.the_row p (values p)

abbrev pub reference : ℕ → ℕ → GName → Process → MutBor Process
reference block offset γ p = record { ref_ptr = (block, offset); ghost_name = γ; now = p }

abbrev pub refers : Lft → ℕ → ℕ → GName → Process → Fml
refers κ block offset γ p = (MutRef (named 0) κ process.the_row).own_val (reference block offset γ p) (vptr block offset ∷ [])

abbrev pub cell_of : ℕ → ℕ → List Val → Fml
cell_of block offset vs = cell_at full_share (process.the_row).mir vs block offset

module _ {M : Type 1} {𝓤 : Ura M} (𝓛 : Logic 𝓤) where
  open 𝓛 use {H}

  pub makes_owned : Makes 𝓛 process.the_row (Is process.the_row)
  makes_owned = structs.makes process.the_type laws.the_plain 𝓛

  module _ (p : Process) where
    pub typed : Stands p → Holds (has_ty laws.mir (value p)) × WT (value p)
    typed stands = ((structs.lawful process.the_type laws.the_laws 𝓛).typed p (values p) stands).0

    module _ (block offset : ℕ) where
      pub cell_known : (vs : List Val) → ent 𝓤 (sep 𝓤 (sem 𝓛 (cell_of block offset vs)) (sem 𝓛 ((process.the_row).own_val p vs)))
          (guard 𝓤 (Stands p) (sem 𝓛 (cell_of block offset (values p))))
      cell_known vs =
          qed 𝓛 (‵ (cell_of block offset vs) ∷ ‵ ((process.the_row).own_val p vs) ∷ []) ∵
          spelt ! process.the_row (Is process.the_row) (shows 𝓛 process.the_row) values (structs.tells process.the_type laws.the_laws)
          full_share p vs block offset $
          -- [the cell with p's machine value; what p owns at it]
          move ! (1 ∷ []) $ peeks ! process.the_row (Is process.the_row) (shows 𝓛 process.the_row) p (values p) (λ stands. drop ! $ check ! stands $ done !)

      pub lies_of_cell : Stands p → ent 𝓤 (H.at full_share laws.mir block offset (value p)) (sem 𝓛 ((mem process.the_row).own_at p block offset))
      unfolding part_of
      lies_of_cell stands =
          qed 𝓛 (‵ (fat full_share laws.mir block offset (value p)) ∷ []) ∵
          use1 𝓛 (‵ (cell_of block offset (values p))) (𝓛.laws.at_raw full_share laws.mir block offset (value p)) $
          owned ! process.the_row (Is process.the_row) makes_owned p (values p) stands $ move ! (1 ∷ 0 ∷ []) $
          -- [the cell, as it is seen behind a reference; what p owns at the value there]
          fjoin ! $ fpack ! (List Val) (λ vs. fsep (cell_of block offset vs) ((process.the_row).own_val p vs)) (values p) $ done !

      pub cell_of_lies : ent 𝓤 (sem 𝓛 ((mem process.the_row).own_at p block offset)) (guard 𝓤 (Stands p) (H.at full_share laws.mir block offset (value p)))
      unfolding part_of
      cell_of_lies =
          qed 𝓛 (‵ ((mem process.the_row).own_at p block offset) ∷ []) ∵ fpick ! (λ vs. fsplit ! $
          use2 𝓛 (given (Stands p) (‵ (cell_of block offset (values p)))) (cell_known vs) $ learn ! (λ stands. check ! stands $
          use1 𝓛 (‵ (fat full_share laws.mir block offset (value p))) (𝓛.laws.raw_at full_share laws.mir block offset (value p)) $ done !))
