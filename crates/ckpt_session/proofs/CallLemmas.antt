-- What a line says that was read as a call.
use Rattle.ckpt_session.proofs.Names.{◌≡◌, ℕ, Ok, Result, refl, Call, LineFault, Line, Scene, called, obeyed, said, told}
use Rattle.ckpt_lines.specs.declared.line.Line.TheVariants as line

pub said_call : (number : ℕ) (scene : Scene) (read : Result Line LineFault) (call : Call) → read ≡ Ok (line.Call call) → said number scene read ≡ told (called scene scene.core call)
unfolding said obeyed
said_call number scene read call says = rw says refl
