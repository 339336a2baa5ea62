use Rattle.std.proofs.Common.{◌≡◌, refl, true, inl, inr}
use Rattle.table.specs.declared.answers.Answer.{Answer}
use Rattle.table.specs.declared.answers.Answer.TheVariants.{Ok, ReceiverUnknown, ReceiverNotReady, ReceiverBufferOverflow, BufferEmpty, BufferOverflow, ParameterError, NoTask, NotFound, CommandPrivileged, NoUser, IllegalInput, TaskListOverflow, TimeCondition, NoSemaphoreNumber, NoPoolInit, PoolOverflow, DataLengthFault, PoolLengthFault, Suspended, NotReady, Started, BadConfig, BadLog, NotHolder}
use Rattle.table.specs.Answers.{refusal_of}
use Rattle.table.proofs.answers.Answer.is_refusal.Goals.{in-Ok, in_default}
use Rattle.table.proofs.answers.Answer.is_refusal.Goals as goal

-- whatever is none of the four is a refusal
refuses : (a : Answer) → (a ≡ Ok → ⊥) → (a ≡ BufferOverflow → ⊥) → (a ≡ TimeCondition → ⊥) → (a ≡ Suspended → ⊥) → refusal_of a ≡ true
unfolding refusal_of
refuses Ok ok full time waits = absurd (ok refl)
refuses ReceiverUnknown ok full time waits = refl
refuses ReceiverNotReady ok full time waits = refl
refuses ReceiverBufferOverflow ok full time waits = refl
refuses BufferEmpty ok full time waits = refl
refuses BufferOverflow ok full time waits = absurd (full refl)
refuses ParameterError ok full time waits = refl
refuses NoTask ok full time waits = refl
refuses NotFound ok full time waits = refl
refuses CommandPrivileged ok full time waits = refl
refuses NoUser ok full time waits = refl
refuses IllegalInput ok full time waits = refl
refuses TaskListOverflow ok full time waits = refl
refuses TimeCondition ok full time waits = absurd (time refl)
refuses NoSemaphoreNumber ok full time waits = refl
refuses NoPoolInit ok full time waits = refl
refuses PoolOverflow ok full time waits = refl
refuses DataLengthFault ok full time waits = refl
refuses PoolLengthFault ok full time waits = refl
refuses Suspended ok full time waits = absurd (waits refl)
refuses NotReady ok full time waits = refl
refuses Started ok full time waits = refl
refuses BadConfig ok full time waits = refl
refuses BadLog ok full time waits = refl
refuses NotHolder ok full time waits = refl

pub returns : goal.returns
unfolding refusal_of
returns c = elim c.match-matches.branch [
  | in-Ok w ↦ rw w.matches-is (elim w.in-Ok.is [
    | inl ok ↦ rw ok
    | inr rest ↦ elim rest [ inl full ↦ rw full | inr rest ↦ elim rest [ inl time ↦ rw time | inr waits ↦ rw waits ] ]
  ])
  | in_default w ↦ rw w.matches-is (rw (refuses c.args.self w.in_default.not-Ok w.in_default.not-BufferOverflow w.in_default.not-TimeCondition w.in_default.not-Suspended))
]
