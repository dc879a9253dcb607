-- A fact that holds in any case holds if a call succeeds.
use Rattle.ckpt_image.proofs.Names.{OnOk, Result, Ok, Err}

pub on_any_ok : {T E : Type 0} (r : Result T E) (P : Type 0) → P → OnOk r P
on_any_ok (Ok x) P p = p
on_any_ok (Err e) P p = tt
