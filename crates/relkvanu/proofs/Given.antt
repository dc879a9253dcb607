-- The answer of a take.
use Rattle.relkvanu.proofs.Imports.{◌≡◌, refl, sym, ap, ◌∙◌, subst, arith, ◌≤◌, ℕ, min, Option, None, length, length-take, refusal, State, step, effect, take_files, unless_refused, files_in}
use Rattle.ckpt_ids.specs.declared.reply.Refusal.{Refusal as Why}
use Rattle.ckpt_ids.specs.declared.call.Call.TheVariants as call

takes_some : (m : State) (n : ℕ) → refusal m (call.Take n) ≡ None → length (files_in (step m (call.Take n)).1) ≡ min n (length m.waiting)
unfolding step effect take_files
takes_some m n none = ap (λ (w : Option Why). length (files_in (unless_refused m (call.Take n) w).1)) none ∙ length-take n m.waiting

never_refused : (m : State) (n : ℕ) → refusal m (call.Take n) ≡ None
unfolding refusal
never_refused m n = refl

-- how many files a take returns
pub take_brings : (m : State) (n : ℕ) → length (files_in (step m (call.Take n)).1) ≡ min n (length m.waiting)
take_brings m n = takes_some m n (never_refused m n)

pub take_at_most : (m : State) (n : ℕ) → length (files_in (step m (call.Take n)).1) ≤ n
take_at_most m n = subst (λ (k : ℕ). k ≤ n) (sym (take_brings m n)) (omega arith)
