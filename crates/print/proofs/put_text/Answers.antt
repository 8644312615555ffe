use mathlib.Core.Path.{sym, ap}
use native.Mathlib.Omega.{arith}
use Rattle.print.specs.Print.{text_of}
use Rattle.print.proofs.Laws.{wrote_as}
use Rattle.print.proofs.put_text.Goals as goal

pub returns-in-Done : goal.returns-in-Done
unfolding text_of
returns-in-Done c = wrote_as c.put.ensures (sym (ap text_of c.in-Done.is)) (omega arith)

pub returns-in-Value : goal.returns-in-Value
unfolding text_of
returns-in-Value c = wrote_as c.put_hex.ensures (sym (ap text_of c.in-Value.is)) (omega arith)

pub returns-in-Granted : goal.returns-in-Granted
unfolding text_of
returns-in-Granted c = wrote_as c.put_granted.ensures (sym (ap text_of c.in-Granted.is)) (omega arith)

pub returns-in-Refused : goal.returns-in-Refused
unfolding text_of
returns-in-Refused c = wrote_as c.put_refusal.ensures (sym (ap text_of c.in-Refused.is)) (omega arith)

pub returns-in-Bad : goal.returns-in-Bad
unfolding text_of
returns-in-Bad c = wrote_as c.put-in-Bad.ensures (sym (ap text_of c.in-Bad.is)) (omega arith)
