-- Answers the goals of `usual`.
use Rattle.relkvanu.proofs.Imports.{◌≡◌, ℕ, List, Ok, refl, IfSome, None, Option, Some, Call, reading, Make, extends_line, said}
use Rattle.ckpt_lines.specs.declared.line.Line.TheVariants as line
use Rattle.relkvanu.specs.declared.asked.Asked.TheVariants as ask
use Rattle.relkvanu.proofs.asked.usual.Goals as goal

-- a line of a script that says a call asks for it, without a term
found_asks : (bytes : List ℕ) (found : Option Call) → IfSome found (λ call. reading bytes ≡ Ok (line.Call call)) → IfSome found (λ call. said bytes ≡ Ok (ask.Call (Make 0 call)))
unfolding said
found_asks bytes None says = says
found_asks bytes (Some call) says = rw (extends_line bytes (line.Call call) says) refl

pub returns : goal.returns
returns c = found_asks c.args.line.now c.usual_call.result c.usual_call.ensures.call
