-- What RECEIVE and AWAITMESSAGE decide on the caller's record comes to what they do. Assumes nothing.
use mathlib.Core.Path.{◌≡◌, refl}
use mathlib.Core.Bool.{not}
use mathlib.Core.List.{[], ◌∷◌}
use Prim.Native.Nat.{ℕ, min}
use lib.Dec.{eqb}
use lib.ListN.{length, get_or}
use Rattle.common.specs.Choice.{pick}
use Rattle.common.proofs.Cases.{by_test}
use Rattle.process.specs.declared.Process.{Process}
use Rattle.process.specs.declared.states.Cause.TheVariants.{WaitForMessage}
use Rattle.process.specs.declared.states.State.TheVariants.{Ready}
use Rattle.process.specs.Process.{moved_of}
use Rattle.process.specs.States.{is_of}
use Rattle.table.specs.declared.answers.Answer.TheVariants.{NotReady, BufferEmpty, Suspended}
use Rattle.table.specs.declared.Table.{Table}
use Rattle.calls.specs.declared.Decided.{Decided}
use Rattle.calls.specs.Decisions.{decided, told_of, decided_at}
use Rattle.calls.specs.Effects.{nothing, suspended, outcome_of}
use Rattle.calls.specs.Levels.{process_of, moving}
use Rattle.calls.specs.Verdicts.{check}
use Rattle.calls.proofs.Deciding.{decided_call}
use Rattle.messages.specs.Receiving.{taking_of, receive_of, await_message_of, took_of, received_of, awaited_of}

-- the oldest message is handed over
took_told : (t : Table) (level : ℕ) → decided_at t level (took_of (process_of t level)) ≡ outcome_of (taking_of t level)
unfolding told_of outcome_of taking_of
took_told t level = refl

-- it waits for one
waits_told : (t : Table) (level : ℕ) → decided_at t level (decided Suspended nothing (moved_of (process_of t level) WaitForMessage)) ≡ outcome_of (suspended (moving t level WaitForMessage))
unfolding told_of outcome_of
waits_told t level = refl

-- what AWAITMESSAGE comes to for a process that may call
abbrev awaits : Process → Decided Process
awaits p = pick (eqb p.buffer.list.count 0) (decided Suspended nothing (moved_of p WaitForMessage)) (took_of p)

module _ (t : Table) (caller : ℕ) (other : Process) (whole : length t.processes ≡ 12) where
  -- the record that the code looks at: the caller's, or one that makes no difference
  abbrev seen : Process
  seen = get_or t.processes (min caller 11) other

  pub received_all : decided_at t (min caller 11) (received_of t.config seen caller) ≡ outcome_of (receive_of t caller)
  unfolding received_of receive_of
  received_all =
      decided_call t caller other whole
      (λ p. check (is_of p.state Ready) NotReady ∷ check (not (eqb p.buffer.list.count 0)) BufferEmpty ∷ [])
      took_of (taking_of t caller) (took_told t caller)

  awaits_told : decided_at t caller (awaits (process_of t caller))
      ≡ outcome_of (pick (eqb (process_of t caller).buffer.list.count 0) (suspended (moving t caller WaitForMessage)) (taking_of t caller))
  awaits_told =
      by_test (eqb (process_of t caller).buffer.list.count 0)
      (λ none. rw none (waits_told t caller))
      (λ some. rw some (took_told t caller))

  pub awaited_all : decided_at t (min caller 11) (awaited_of t.config seen caller) ≡ outcome_of (await_message_of t caller)
  unfolding awaited_of await_message_of
  awaited_all = decided_call t caller other whole (λ p. check (is_of p.state Ready) NotReady ∷ []) awaits _ awaits_told
