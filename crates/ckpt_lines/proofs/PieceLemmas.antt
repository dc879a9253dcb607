-- One number more of a list.
use Rattle.ckpt_lines.proofs.Names.{◌≡◌, ℕ, ◌+◌, List, Some, take, sym, subst, slice_get, All, All-push, take-next, Fits}

pub fit-next : (xs : List ℕ) (k x : ℕ) → slice_get xs k ≡ Some x → All Fits (take k xs) → Fits x → All Fits (take (k + 1) xs)
fit-next xs k x found before fits = subst (λ (ys : List ℕ). All Fits ys) (sym (take-next xs k x found)) (All-push Fits (take k xs) x before fits)
