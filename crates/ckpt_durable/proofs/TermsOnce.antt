-- Terms that were told.
use Rattle.ckpt_durable.proofs.Names.{◌≡◌, ℕ, ◌+◌, ◌<◌, ◌≤◌, max, Bool, true, false, ◌&&◌, if◌then◌else◌, List, [], ◌∷◌, ◌++◌, refl, sym, ap, ◌∙◌, subst, ⊎_elim, arith, both_ways, Answer}
use Rattle.ckpt_durable.proofs.Names.{step, FencedAnswer, FencedCall, Reserve, Forfeit, Make, Advance, Fenced, FencedStepped, ends_the_term, fenced_step, has_ended, is_accepted, made}
use Rattle.ckpt_durable.proofs.Names.{restart, advance_by, fenced_step_by, BeginsTermsOnce, Event, IsWithin, along, world}
use Rattle.ckpt_durable.proofs.{Lists.within_later, Worlds.durable}
use Rattle.ckpt_terms.specs.declared.call.FencedAnswer.TheVariants as answer

rise_if : (b : Bool) (t : ℕ) → t ≤ (if b then t + 1 else t)
rise_if true t = omega arith
rise_if false t = omega arith

made_terms : (m : Fenced) (call : FencedCall) → m.term ≤ (made m call).0.term
made_terms m (Reserve term count) = omega arith
made_terms m (Forfeit term names) = omega arith
made_terms m (Make term its) = rise_if (is_accepted (step m.core its).1 && ends_the_term its) m.term
made_terms m (Advance now term first) =
    advance_by m now term first (λ (n : Fenced). m.term ≤ n.term)
    (λ _. let up : max m.term term ≤ (if is_accepted (step m.core (restart now)).1 && true then max m.term term + 1 else max m.term term) = rise_if (is_accepted (step m.core (restart now)).1 && true) (max m.term term) in omega (arith, up))
    (λ _. rise_if (is_accepted (step m.core (restart now)).1 && true) m.term)

pub terms_rise : (m : Fenced) (call : FencedCall) → m.term ≤ (fenced_step m call).0.term
terms_rise m call = fenced_step_by m call (λ (x : FencedStepped). m.term ≤ x.0.term) (λ _. omega arith) (λ _. made_terms m call)

abbrev pub has_term : FencedAnswer → Bool
has_term (answer.Made after its) = true
has_term (answer.Fenced why) = false
has_term (answer.Forfeited) = false
has_term (answer.Reserved first) = false

abbrev pub term_in : FencedAnswer → ℕ
term_in (answer.Made after its) = after
term_in (answer.Fenced why) = 0
term_in (answer.Forfeited) = 0
term_in (answer.Reserved first) = 0

-- what an answer with a term says of the step
abbrev Tells : Fenced → FencedCall → FencedStepped → Type 0
Tells m call x = has_term x.1 ≡ true → (x.0.term ≡ term_in x.1) × (has_ended call x.1 ≡ true → m.term < x.0.term)

-- a term that rises by one is above each that it was not below
ended_above : (b : Bool) (low t : ℕ) → b ≡ true → low ≤ t → low < (if b then t + 1 else t)
ended_above true low t e up = omega (arith, up)
ended_above false low t e up = absurd (both_ways true (sym e) refl)

advance_ends : (m : Fenced) (now term first : ℕ) → is_accepted (step m.core (restart now)).1 ≡ true → m.term < (made m (Advance now term first)).0.term
advance_ends m now term first h =
    advance_by m now term first (λ (n : Fenced). m.term < n.term)
    (λ a. ended_above (is_accepted (step m.core (restart now)).1 && true) m.term (max m.term term) (ap (λ (b : Bool). b && true) a) (omega arith))
    (λ a. absurd (both_ways true (sym h ∙ a) refl))

pub tells : (m : Fenced) (call : FencedCall) → Tells m call (fenced_step m call)
tells m (Reserve term count) = fenced_step_by m (Reserve term count) (Tells m (Reserve term count)) (λ why e. absurd (both_ways true (sym e) refl)) (λ _ e. absurd (both_ways true (sym e) refl))
tells m (Forfeit term names) = fenced_step_by m (Forfeit term names) (Tells m (Forfeit term names)) (λ why e. absurd (both_ways true (sym e) refl)) (λ _ e. absurd (both_ways true (sym e) refl))
tells m (Make term its) =
    fenced_step_by m (Make term its) (Tells m (Make term its)) (λ why e. absurd (both_ways true (sym e) refl))
    (λ _ _. (refl, λ h. ended_above (is_accepted (step m.core its).1 && ends_the_term its) m.term m.term h (omega arith)))
tells m (Advance now term first) =
    fenced_step_by m (Advance now term first) (Tells m (Advance now term first)) (λ why e. absurd (both_ways true (sym e) refl))
    (λ _ _. (refl, λ h. advance_ends m now term first h))

tells_at : (m : Fenced) (call late : FencedCall) (next : ℕ) (more : Answer) → ◌≡◌ {A = FencedCall × FencedAnswer} (late, answer.Made next more) (call, (fenced_step m call).1)
    → ((fenced_step m call).0.term ≡ next) × (has_ended late (answer.Made next more) ≡ true → m.term < next)
tells_at m call late next more e =
    let is : late ≡ call = ap (λ (x : FencedCall × FencedAnswer). x.0) e in
    let its : answer.Made next more ≡ (fenced_step m call).1 = ap (λ (x : FencedCall × FencedAnswer). x.1) e in
    let t = tells m call (ap has_term (sym its)) in
    let first : (fenced_step m call).0.term ≡ next = t.0 ∙ ap term_in (sym its) in
    (first, λ h. subst (λ (n : ℕ). m.term < n) first (t.1 (ap (λ (x : FencedCall × FencedAnswer). has_ended x.0 x.1) (sym e) ∙ h)))

told_behind : (m : Fenced) (calls : List FencedCall) (late : FencedCall) (next : ℕ) (more : Answer) (zs : List (FencedCall × FencedAnswer))
    → IsWithin ((late, answer.Made next more) ∷ zs) (along m calls) → (m.term ≤ next) × (has_ended late (answer.Made next more) ≡ true → m.term < next)
told_behind m [] late next more zs h = absurd h
told_behind m (call ∷ calls) late next more zs h =
    let k : Fenced = (fenced_step m call).0 in
    let n : ℕ = k.term in
    let a : m.term ≤ n = terms_rise m call in
    ⊎_elim
    (λ (i : (◌≡◌ {A = FencedCall × FencedAnswer} (late, answer.Made next more) (call, (fenced_step m call).1)) × IsWithin zs (along k calls)).
    let t = tells_at m call late next more i.0 in
    let e : n ≡ next = t.0 in
    (omega arith, λ h. t.1 h))
    (λ (i : IsWithin ((late, answer.Made next more) ∷ zs) (along k calls)).
    let t = told_behind k calls late next more zs i in
    let b : n ≤ next = t.0 in
    (omega arith, λ h. let d : n < next = t.1 h in omega arith))
    h

told_once : (m : Fenced) (calls : List FencedCall) (ys zs : List (FencedCall × FencedAnswer)) (call late : FencedCall) (term next : ℕ) (its more : Answer)
    → IsWithin ((call, answer.Made term its) ∷ (ys ++ (late, answer.Made next more) ∷ zs)) (along m calls) → (term ≤ next) × (has_ended late (answer.Made next more) ≡ true → term < next)
told_once m [] ys zs call late term next its more h = absurd h
told_once m (first ∷ calls) ys zs call late term next its more h =
    let us : List (FencedCall × FencedAnswer) = ys ++ (late, answer.Made next more) ∷ zs in
    let k : Fenced = (fenced_step m first).0 in
    ⊎_elim
    (λ (i : (◌≡◌ {A = FencedCall × FencedAnswer} (call, answer.Made term its) (first, (fenced_step m first).1)) × IsWithin us (along k calls)).
    let e : k.term ≡ term = (tells_at m first call term its i.0).0 in
    let b = told_behind k calls late next more zs (within_later ys ((late, answer.Made next more) ∷ zs) (along k calls) i.1) in
    (subst (λ (t : ℕ). t ≤ next) e b.0, λ h. subst (λ (t : ℕ). t < next) e (b.1 h)))
    (λ (i : IsWithin ((call, answer.Made term its) ∷ us) (along k calls)). told_once k calls ys zs call late term next its more i)
    h

pub begins_terms_once : (m : Fenced) (events : List Event) → BeginsTermsOnce m events
begins_terms_once m events xs ys zs call late term next its more e =
    let there : List (FencedCall × FencedAnswer) = along m (world m events).life.kept in
    let one : List (FencedCall × FencedAnswer) = (call, answer.Made term its) ∷ (ys ++ (late, answer.Made next more) ∷ zs) in
    told_once m (world m events).life.kept ys zs call late term next its more
    (within_later xs one there (subst (λ (t : List (FencedCall × FencedAnswer)). IsWithin t there) e (durable m events).told))
