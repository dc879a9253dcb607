-- A handle is the same for every thread: it owns the coordinator's box, and a coordinator may go to another thread.
use Rattle.relkvanu.proofs.Imports.{full_share, Keyless, lone, Ptr, block_ptr, null_ptr, IsSend, part_keyless, ghosts, frees, box_owns, State, Issued, logged_send, Chronicle, heap, kept}
use Rattle.relkvanu.proofs.Imports.{the_row}
use Rattle.relkvanu.proofs.Words.{R}
use mir.Raw.{raw}
use Rattle.std.specs.declared.option.Option.{Option}
use Rattle.std.specs.declared.option.Option.TheVariants.{None, Some}

boxed_keyless : (p : Ptr) (x : R.Denot) → Keyless (box_owns (ghosts.dealloc_token heap) R p x)
boxed_keyless null_ptr x = (tt, frees.frees heap (raw (lone R.mir)) null_ptr)
boxed_keyless (block_ptr b o) x = (part_keyless R logged_send full_share x b o, frees.frees heap (raw (lone R.mir)) (block_ptr b o))

kept_keyless : (p : Ptr) (v : Option State) (n : Option Issued) (c : Option Chronicle) → Keyless (kept p v n c)
kept_keyless p v n None = λ _. tt
kept_keyless p v n (Some c) = λ _. boxed_keyless p c

pub send : IsSend the_row
send = record { owned = λ h vs. ((λ fields. (tt, (tt, tt))), kept_keyless h.at h.value h.names h.past); leaving = λ k d w. tt }
