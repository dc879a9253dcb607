-- Reports, if none is missing.
use Rattle.ckpt_workers.proofs.Names.{Err, IfOk, List, Ok, Result, [], get_or, map, subst, suc, sym, zero, ℕ, ◌<◌, ◌∷◌, ◌≡◌}

at_place : {R : Type 0} (E : Type 0) (P : R → Type 0) (reports : List R) (i : ℕ) (r : R) → IfOk {E = E} (get_or (map (λ (x : R). Ok x) reports) i (Ok r)) P → P (get_or reports i r)
at_place E P [] i r p = p
at_place E P (x ∷ xs) zero r p = p
at_place E P (x ∷ xs) (suc i) r p = at_place E P xs i r p

-- a fact about the outcome at a place holds for its report, if each outcome is a report
report_at : {R E : Type 0} (P : R → Type 0) (reports : List R) (outcomes : List (Result R E)) (i : ℕ) (r : R)
    → map (λ (x : R). Ok x) reports ≡ outcomes → IfOk (get_or outcomes i (Ok r)) P → P (get_or reports i r)
report_at P reports outcomes i r all h = at_place _ P reports i r (subst (λ l. IfOk (get_or l i (Ok r)) P) (sym all) h)

pub each_report : {V R S E : Type 0} (items : V → List R) (W : S → R → Type 0) (shares : List S) (n : ℕ) (outcomes : List (Result R E)) (result : Result V E)
    → IfOk result (λ v. map (λ (x : R). Ok x) (items v) ≡ outcomes)
    → ((i : ℕ) (s : S) (o : Result R E) → i < n → IfOk (get_or outcomes i o) (W (get_or shares i s)))
    → IfOk result (λ v. (i : ℕ) (s : S) (r : R) → i < n → W (get_or shares i s) (get_or (items v) i r))
each_report items W shares n outcomes (Ok v) all each = λ i s r lt. report_at (W (get_or shares i s)) (items v) outcomes i r all (each i s (Ok r) lt)
each_report items W shares n outcomes (Err e) all each = tt
