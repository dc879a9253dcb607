-- What a call without a term does, with names and without.
use Rattle.ckpt_terms.proofs.Imports.{◌≡◌, ℕ, ◌+◌, ◌≤◌, ◌^◌, Bool, true, false, ◌||◌, ltb, eqb, ◌&&◌, List, [], refl, sym, ap, subst, ◌∙◌, arith, Some, None, cond, cond-false, or_parts}
use Rattle.ckpt_terms.proofs.Imports.{ltb-false, eqb-false, ne_eqb, le-ltb, Call, Ack, Decline, Restore, Cancel, State, Opening, opened, IsSound, Stepped, step, Make, FencedAnswer, BadName}
use Rattle.ckpt_terms.proofs.Imports.{NameInUse, Machine, Fenced, FencedStepped, ends_the_term, fence, fenced_step, fresh_of, is_accepted, unspent_after, CanFence, IsFenced, MakesStep}
use Rattle.ckpt_terms.proofs.Imports.{fence_fault, has_known_from, is_free, machine_step, names_in, passes}
use Rattle.ckpt_terms.proofs.{KnownFiles.known_below, Stepping.fenced_on, TermLemmas.layer, TermLemmas.stays}
use Rattle.ckpt_terms.specs.declared.call.FencedAnswer.TheVariants as answer
use Rattle.ckpt_terms.specs.declared.machine.Machine.TheVariants as machine

-- a call that needs no term and ends none

free_passes : (m : Fenced) (call : Call) → is_free call ≡ true → fence m (Make 0 call) ≡ None
free_passes m (Ack now id subtask fresh reused) free = absurd cc
free_passes m (Decline now id subtask) free = absurd cc
free_passes m (Restore now target shape) free = absurd cc
free_passes m (Cancel now) free = absurd cc
free_passes m call free = refl

free_goes_on : (call : Call) → is_free call ≡ true → ends_the_term call ≡ false
free_goes_on (Ack now id subtask fresh reused) free = refl
free_goes_on (Decline now id subtask) free = refl
free_goes_on (Restore now target shape) free = absurd cc
free_goes_on (Cancel now) free = absurd cc
free_goes_on call free = refl

free_names_none : (call : Call) → is_free call ≡ true → fresh_of call ≡ []
free_names_none (Ack now id subtask fresh reused) free = absurd cc
free_names_none call free = refl

-- it leaves the term and the names, accepted or not
goes_on : (m : Fenced) (call : Call) (core : State) (accepted : Bool) → ends_the_term call ≡ false → fresh_of call ≡ []
    → layer core (cond (accepted && ends_the_term call) (m.term + 1) m.term) m.next_name (cond accepted (unspent_after m.unspent call) m.unspent) ≡ layer core m.term m.next_name m.unspent
goes_on m call core true e none =
    ap (λ (t : ℕ). layer core t m.next_name (unspent_after m.unspent call)) (cond-false (ends_the_term call) (m.term + 1) m.term e)
    ∙ ap (λ (xs : List ℕ). layer core m.term m.next_name xs) (sym (stays m.unspent call e none))
goes_on m call core false e none = refl

free_step : (m : Fenced) (call : Call) → is_free call ≡ true → fenced_step m (Make 0 call) ≡ (layer (step m.core call).0 m.term m.next_name m.unspent, answer.Made m.term (step m.core call).1)
free_step m call free =
    let s : Stepped = step m.core call in
    fenced_on m (Make 0 call) (free_passes m call free)
    ∙ ap (λ (n : Fenced). (n, answer.Made n.term s.1)) (goes_on m call s.0 (is_accepted s.1) (free_goes_on call free) (free_names_none call free))

-- what passes makes the coordinator's step
pub passes_on : (k : Machine) (call : Call) → passes (names_in k) call ≡ true → MakesStep k (machine_step k call).0 call (machine_step k call).1
passes_on (machine.Plain m) call pass = record { core = refl; names = refl; told = refl }
passes_on (machine.Fenced m) call pass =
    let s : FencedStepped = fenced_step m (Make 0 call) in
    let free : is_free call ≡ true = free_of (is_free call) pass in
    let is : s ≡ (layer (step m.core call).0 m.term m.next_name m.unspent, answer.Made m.term (step m.core call).1) = free_step m call free in
    record {
      core = ap (λ (x : FencedStepped). x.0.core) is;
      names = ap (λ (x : FencedStepped). names_in (machine.Fenced x.0)) is;
      told = ap (λ (x : FencedStepped). x.1) is;
    }
  where
    free_of : (b : Bool) → (b || false) ≡ true → b ≡ true
    free_of true e = refl
    free_of false e = e

-- the same of a step that was made
pub passed_on : (k n : Machine) (call : Call) (its : FencedAnswer) → machine_step k call ≡ (n, its) → passes (names_in k) call ≡ true → MakesStep k n call its
passed_on k n call its made pass =
    let P : Machine × FencedAnswer → Type 0 = λ s. MakesStep k s.0 call s.1 in
    subst P made (passes_on k call pass)

-- a coordinator with its first names
record CanName (m : State) (first : ℕ) : Type 0 where
  from : 1 ≤ first
  to : first ≤ 2 ^ 62
  none : has_known_from m first ≡ false

can_name : (m : State) (first : ℕ) → fence_fault (machine.Plain m) first ≡ None → CanName m first
can_name m first e = by_test (eqb first 0 || ltb (2 ^ 62) first) (has_known_from m first) refl refl e
  where
    by_test : (b c : Bool) → (eqb first 0 || ltb (2 ^ 62) first) ≡ b → has_known_from m first ≡ c → cond b (Some BadName) (cond c (Some NameInUse) None) ≡ None → CanName m first
    by_test true c bad some e = absurd cc
    by_test false true bad some e = absurd cc
    by_test false false bad some e =
        let parts = or_parts (eqb first 0) (ltb (2 ^ 62) first) bad in
        let positive : first ≡ 0 → ⊥ = eqb-false first 0 parts.0 in
        record { from = omega (arith, positive); to = ltb-false (2 ^ 62) first parts.1; none = some }

pub named_fenced : (m : State) (first : ℕ) → IsSound m → fence_fault (machine.Plain m) first ≡ None → IsFenced (layer m 1 first [])
named_fenced m first sound e =
    let can : CanName m first = can_name m first e in
    record {
      core = sound;
      term_from = omega arith;
      term_to = omega arith;
      names_from = can.from;
      names_to = can.to;
      known = known_below m first can.none;
      reserved = λ f h. absurd h;
      apart = λ f h. absurd h;
      ascending = tt;
      ended = λ _. refl;
    }

-- a coordinator that was just opened can have them
pub first_fence : (o : Opening) (first : ℕ) → CanFence o first → fence_fault (machine.Plain (opened o)) first ≡ None
first_fence o first c =
    let from : 1 ≤ first = c.first_from in
    let to : first ≤ 2 ^ 62 = c.first_to in
    rw (ne_eqb first 0 (λ e. absurd (omega arith)), le-ltb (2 ^ 62) first to) refl
