-- Acknowledgements in the term that runs, with names that it holds, reach the coordinator.
use Rattle.ckpt_terms.proofs.Imports.{◌≡◌, ℕ, ◌+◌, Bool, true, false, not, ◌&&◌, eqb, List, [], ◌∷◌, map, refl, sym, ap, ◌∙◌, ⊎_elim, inl, inr, Some, None, list_any, filter, find, cases_Bool}
use Rattle.ckpt_terms.proofs.Imports.{and_right, cond-false, cond_both, eq-eqb, not_from_false, IsIn, Record, IsIn-filter, IsIn-from_test, list_any-none, test-from_IsIn, find-none, answers}
use Rattle.ckpt_terms.proofs.Imports.{AreOfDifferent, TimedPart, ack_at, Stepped, step, completes, OldTerm, Fenced, FencedStepped, after_call, fence, fenced_step, is_accepted, is_unspent}
use Rattle.ckpt_terms.proofs.Imports.{not_reserved, IsFenced, CompletesInTerm, ack_in, fenced_answers}
use Rattle.ckpt_terms.proofs.Stepping.{fenced_on}
use Rattle.ckpt_terms.specs.declared.call.FencedAnswer.TheVariants as answer

-- one is let through
let_in : (m : Fenced) (term id : ℕ) (t : TimedPart) → term ≡ m.term → ((f : ℕ) → IsIn f t.part.fresh → IsIn f m.unspent) → fence m (ack_in term id t) ≡ None
let_in m term id t same held =
    let lacks : ℕ → Bool = λ f. not (is_unspent m f) in
    let none : find lacks t.part.fresh ≡ None = find-none lacks t.part.fresh (list_any-none lacks t.part.fresh (λ f h. ap not (test-from_IsIn f m.unspent (held f h)))) in
    cond-false (not (eqb term m.term)) (Some OldTerm) _ (ap not (eq-eqb term m.term same)) ∙ ap (not_reserved m) none

-- and leaves the term, and the names of others
same_term : (m : Fenced) (id : ℕ) (t : TimedPart) → (after_call m (ack_at id t) (step m.core (ack_at id t))).term ≡ m.term
same_term m id t = let s : Stepped = step m.core (ack_at id t) in cond-false (is_accepted s.1 && false) (m.term + 1) m.term (and_right (is_accepted s.1) false refl)

still_held : (m : Fenced) (id : ℕ) (t : TimedPart) (f : ℕ) → IsIn f m.unspent → (IsIn f t.part.fresh → ⊥) → IsIn f (after_call m (ack_at id t) (step m.core (ack_at id t))).unspent
still_held m id t f held other =
    let s : Stepped = step m.core (ack_at id t) in
    let fresh : List ℕ = t.part.fresh in
    let keep : ℕ → Bool = λ g. not (list_any (λ h. eqb g h) fresh) in
    let kept : keep f ≡ true = ⊎_elim (λ (e : list_any (λ h. eqb f h) fresh ≡ true). absurd (other (IsIn-from_test f fresh e)))
    (λ (e : list_any (λ h. eqb f h) fresh ≡ false). not_from_false (list_any (λ h. eqb f h) fresh) e) (cases_Bool (list_any (λ h. eqb f h) fresh)) in
    cond_both (is_accepted s.1) (filter keep m.unspent) m.unspent (λ (xs : List ℕ). IsIn f xs) (λ _. IsIn-filter keep f m.unspent held kept) (λ _. held)

-- one after the other
let_through : (m : Fenced) (term id : ℕ) (ts : List TimedPart) → term ≡ m.term → ((t : TimedPart) → IsIn t ts → (f : ℕ) → IsIn f t.part.fresh → IsIn f m.unspent) → AreOfDifferent ts
    → fenced_answers m (map (ack_in term id) ts) ≡ map (answer.Made term) (answers m.core (map (ack_at id) ts))
let_through m term id [] same held apart = refl
let_through m term id (t ∷ ts) same held apart =
    let s : Stepped = step m.core (ack_at id t) in
    let n : Fenced = after_call m (ack_at id t) s in
    let on : fenced_step m (ack_in term id t) ≡ (n, answer.Made n.term s.1) = fenced_on m (ack_in term id t) (let_in m term id t same (held t (inl refl))) in
    let its : n.term ≡ m.term = same_term m id t in
    let rest = let_through n term id ts (same ∙ sym its) (λ u h f k. still_held m id t f (held u (inr h) f k) (λ g. (apart.0 u h).1 f g k)) apart.1 in
    ap (λ (x : FencedStepped). x.1 ∷ fenced_answers x.0 (map (ack_in term id) ts)) on
    ∙ ap (λ (k : ℕ). answer.Made k s.1 ∷ fenced_answers n (map (ack_in term id) ts)) (its ∙ sym same)
    ∙ ap (λ xs. answer.Made term s.1 ∷ xs) rest

-- the law
pub completes_in_term : (m : Fenced) (id : ℕ) (r : Record) (ts : List TimedPart) → IsFenced m → CompletesInTerm m id r ts
completes_in_term m id r ts i found missing each = (
  let_through m m.term id ts refl (λ t h. ((each t h).1).held) missing.apart,
  completes m.core id r ts i.core found missing (λ t h. let e = each t h in (e.0, record { new = λ f k. i.apart f ((e.1).held f k); used = (e.1).used })),
)
