use Rattle.timers.proofs.order.Goals as goal

pub returns : goal.returns
returns c = rw (c.forward-due.ensures, c.first_delay-delay.ensures, c.unwrap_or.ensures, c.interval-every.ensures)
