-- Document 01, "Answer numbers", and document 02, §1 and §3: the number of each answer, under the name that the document gives it.
use Rattle.std.specs.Prelude.{Bool, not, ◌&&◌, ℕ, eqb}
use Rattle.orders.specs.declared.NotCancelled.{NotCancelled}
use Rattle.orders.specs.declared.NotCancelled.TheVariants.{BadSender, UnknownReceiver, NoOrder, NotTheirs}
use Rattle.process.specs.declared.marking.Told.{Told}
use Rattle.process.specs.declared.marking.Told.TheVariants.{Nothing, Overflow, Time}
use Rattle.table.specs.declared.answers.Answer.{Answer}
use Rattle.table.specs.declared.answers.Answer.TheVariants.{Ok, ReceiverUnknown, ReceiverNotReady, ReceiverBufferOverflow, BufferEmpty, BufferOverflow, ParameterError, NoTask, NotFound, CommandPrivileged, NoUser, IllegalInput, TaskListOverflow, TimeCondition, NoSemaphoreNumber, NoPoolInit, PoolOverflow, DataLengthFault, PoolLengthFault, Suspended, NotReady, Started, BadConfig, BadLog, NotHolder}

abbrev pub number_of : Answer → ℕ
-- OK
number_of Ok = 0
-- RECUNKNOWN
number_of ReceiverUnknown = 1
-- RENOTDRY
number_of ReceiverNotReady = 2
-- RECBUFOFL
number_of ReceiverBufferOverflow = 3
-- BUFFERMT
number_of BufferEmpty = 4
-- BUFFEROFL
number_of BufferOverflow = 5
-- PARAMERROR
number_of ParameterError = 6
-- NOTASK
number_of NoTask = 7
-- NOTFOUND
number_of NotFound = 8
-- CMDPRIVILEGED
number_of CommandPrivileged = 9
-- NOUSER
number_of NoUser = 10
-- ILLIOADDRESS
number_of IllegalInput = 11
-- TASKLISTOFL
number_of TaskListOverflow = 13
-- TIMECONDITION
number_of TimeCondition = 14
-- NOSEMANUMBER
number_of NoSemaphoreNumber = 15
-- NOPOOLINIT
number_of NoPoolInit = 16
-- POOLOVERFLOW
number_of PoolOverflow = 17
-- DATALENFAULT
number_of DataLengthFault = 18
-- POOLLENFAULT
number_of PoolLengthFault = 19
-- SUSPENDED
number_of Suspended = 32
-- NOTREADY
number_of NotReady = 33
-- STARTED
number_of Started = 34
-- BADCONFIG
number_of BadConfig = 35
-- BADLOG
number_of BadLog = 36
-- NOTHOLDER
number_of NotHolder = 37

-- "0, 5, 14 and 32 are no refusals."
unfoldable pub refusal_of : Answer → Bool
refusal_of a = not (eqb (number_of a) 0) && not (eqb (number_of a) 5) && not (eqb (number_of a) 14) && not (eqb (number_of a) 32)

-- a message is handed over with "overflow (5) before time (14)", or 0
abbrev pub told_as : Told → Answer
told_as Nothing = Ok
told_as Overflow = BufferOverflow
told_as Time = TimeCondition

-- 6 PARAMERROR, 1 RECUNKNOWN, 7 NOTASK, 8 NOTFOUND, 6 again
abbrev pub cancel_answer : NotCancelled → Answer
cancel_answer BadSender = ParameterError
cancel_answer UnknownReceiver = ReceiverUnknown
cancel_answer NoOrder = NoTask
cancel_answer NotCancelled.NotFound = NotFound
cancel_answer NotTheirs = ParameterError
