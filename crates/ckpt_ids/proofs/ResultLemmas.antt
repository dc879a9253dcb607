-- What follows for a result or an option from a test of it.
use Rattle.ckpt_ids.proofs.Names.{Option, Some, None, IsSome, OnSome, Result, Ok, Err, OnErr}

-- a fact that is known if there is a value
pub on_some : {X : Type 0} (r : Option X) (P : Type 0) → IsSome r → OnSome r P → P
on_some (Some x) P e h = h
on_some None P e h = absurd (cc e)

-- a known fact holds for each error
pub on_each_error : {T E : Type 0} (r : Result T E) (P : Type 0) → P → OnErr r P
on_each_error (Ok x) P h = tt
on_each_error (Err x) P h = h
