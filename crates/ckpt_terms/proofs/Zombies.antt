-- What an accepted restore or cancel leaves: no held name, and no task whose calls change anything.
use Rattle.ckpt_terms.proofs.Imports.{◌≡◌, ℕ, ◌+◌, ◌<◌, ◌≤◌, max, Bool, true, false, not, ◌&&◌, eqb, List, [], refl, ap, subst, ◌∙◌, ◌⊎◌, inl, inr, ⊎_elim, arith, Some, cases_Bool, both_ways}
use Rattle.ckpt_terms.proofs.Imports.{and_parts, and_from, ne_eqb, not_from_false, cond-true, cond_both, IsIn, Call, is_known, Stepped, step, FencedCall, Reserve, Forfeit, Make, Advance}
use Rattle.ckpt_terms.proofs.Imports.{FencedRefusal, OldTerm, is_garbage, Fenced, is_of_task, ends_the_term, is_accepted, has_ended, fence, unspent_after, without_all, fresh_of, made, raised}
use Rattle.ckpt_terms.proofs.Imports.{restart, FencedStepped, fenced_step, fenced_replay, AreFencedCalls, IsFenced, is_from_task, term_of, ZombiesAreFenced, SweepIsExact, CancelledIsSwept}
use Rattle.ckpt_terms.proofs.{Stepping.advance_by, Stepping.fenced_step_by, Stepping.fenced_off, Stepping.IsOpen, Fences.step_fenced, Fences.replay_later, Classes.garbage_from}
use Rattle.ckpt_terms.specs.declared.call.FencedAnswer.TheVariants as answer

-- what a call leaves that ends the term
pub make_ended : (m : Fenced) (term : ℕ) (end : Call) → (is_accepted (step m.core end).1 && ends_the_term end) ≡ true
    → (m.term < ((made m (Make term end)).0).term) × (((made m (Make term end)).0).unspent ≡ [])
make_ended m term end h =
    let s : Stepped = step m.core end in
    let a = and_parts (is_accepted s.1) (ends_the_term end) h in (
      cond_both (is_accepted s.1 && ends_the_term end) (m.term + 1) m.term (λ (t : ℕ). m.term < t) (λ _. omega arith)
          (λ no. absurd (both_ways (is_accepted s.1 && ends_the_term end) no h)),
      cond-true (is_accepted s.1) (unspent_after m.unspent end) m.unspent a.0
          ∙ cond-true (ends_the_term end) [] (without_all (fresh_of end) m.unspent) a.1,
    )

made_ended : (m : Fenced) (call : FencedCall) → has_ended call (made m call).1 ≡ true → (m.term < ((made m call).0).term) × (((made m call).0).unspent ≡ [])
made_ended m (Make term end) h = make_ended m term end h
made_ended m (Advance now term first) h =
    let s : Stepped = step m.core (restart now) in
    let k : Fenced = raised m term first in
    let Ended : Fenced → Type 0 = λ n. (m.term < n.term) × (n.unspent ≡ []) in
    advance_by m now term first Ended
    (λ yes.
    let its = make_ended k 0 (restart now) (ap (λ (b : Bool). b && true) yes) in
    let above : max m.term term < ((made k (Make 0 (restart now))).0).term = its.0 in
    (omega arith, its.1))
    (λ no. absurd (both_ways (is_accepted s.1) no h))
made_ended m call h = absurd (both_ways (has_ended call (made m call).1) refl h)

none_ended : (m : Fenced) (call : FencedCall) (why : FencedRefusal) → has_ended call (answer.Fenced why) ≡ false
none_ended m (Make term end) why = refl
none_ended m (Advance now term first) why = refl
none_ended m call why = refl

ended : (m : Fenced) (call : FencedCall) → has_ended call (fenced_step m call).1 ≡ true → (m.term < ((fenced_step m call).0).term) × (((fenced_step m call).0).unspent ≡ [])
ended m call = fenced_step_by m call (λ (x : FencedStepped). has_ended call x.1 ≡ true → (m.term < (x.0).term) × ((x.0).unspent ≡ []))
    (λ why h. absurd (both_ways (has_ended call (answer.Fenced why)) (none_ended m call why) h)) (λ _ h. made_ended m call h)

-- a task of another term is fenced
other_term : (term its : ℕ) → term < its → not (eqb term its) ≡ true
other_term term its h = not_from_false (eqb term its) (ne_eqb term its (λ e. absurd (omega arith)))

old_fenced : (n : Fenced) (late : FencedCall) → is_from_task late ≡ true → term_of late < n.term → fence n late ≡ Some OldTerm
old_fenced n (Reserve term count) t h = cond-true (not (eqb term n.term)) _ _ (other_term term n.term h)
old_fenced n (Forfeit term names) t h = cond-true (not (eqb term n.term)) _ _ (other_term term n.term h)
old_fenced n (Advance now term first) t h = absurd (cc)
old_fenced n (Make term call) t h = cond-true (is_of_task call && not (eqb term n.term)) _ _ (and_from (is_of_task call) (not (eqb term n.term)) t (other_term term n.term h))

pub zombies_are_fenced : (m : Fenced) (calls : List FencedCall) → IsFenced m → AreFencedCalls calls → ZombiesAreFenced m calls
zombies_are_fenced m calls i b end its_call e late t h =
    let k : Fenced = (fenced_step m end).0 in
    let n : Fenced = fenced_replay k calls in
    let now : m.term < k.term = (ended m end e).0 in
    let later : k.term ≤ n.term = (replay_later k calls b (step_fenced m end its_call i)).term in
    fenced_off n late OldTerm (old_fenced n late t (omega arith))

-- where no name is held, each that was given out is known or garbage
swept : (n : Fenced) → n.unspent ≡ [] → (f : ℕ) → f < n.next_name → (is_known n.core f ≡ true) ⊎ (is_garbage n f ≡ true)
swept n none f below =
    let In : List ℕ → Type 0 = λ xs. IsIn f xs in
    let closed : IsOpen n f → ⊥ = λ (o : IsOpen n f). ⊎_elim (λ (k : IsIn f n.unspent). subst In none k) (λ (k : n.next_name ≤ f). absurd (omega arith)) o in
    ⊎_elim (λ (k : is_known n.core f ≡ true). inl k) (λ (k : is_known n.core f ≡ false). inr (garbage_from n f closed k)) (cases_Bool (is_known n.core f))

pub sweep_is_exact : (m : Fenced) → SweepIsExact m
sweep_is_exact m end e f below = swept (fenced_step m end).0 (ended m end e).1 f below

pub cancelled_is_swept : (m : Fenced) → IsFenced m → CancelledIsSwept m
cancelled_is_swept m i e f below = swept m (i.ended e) f below
