-- Names that were told.
use Rattle.ckpt_durable.proofs.Names.{◌≡◌, ℕ, ◌+◌, ◌≤◌, Bool, true, false, List, [], ◌∷◌, ◌++◌, refl, sym, ap, ◌∙◌, subst, ⊎_elim, arith, both_ways, FencedAnswer, FencedCall, Reserve}
use Rattle.ckpt_durable.proofs.Names.{Forfeit, Make, Advance, Fenced, FencedStepped, fenced_step, made, advance_by, fenced_step_by, Event, GivesNamesOnce, IsWithin, along, world}
use Rattle.ckpt_durable.proofs.{Lists.within_later, Worlds.durable}
use Rattle.ckpt_terms.specs.declared.call.FencedAnswer.TheVariants as answer

made_names : (m : Fenced) (call : FencedCall) → m.next_name ≤ (made m call).0.next_name
made_names m (Reserve term count) = omega arith
made_names m (Forfeit term names) = omega arith
made_names m (Make term its) = omega arith
made_names m (Advance now term first) = advance_by m now term first (λ (n : Fenced). m.next_name ≤ n.next_name) (λ _. omega arith) (λ _. omega arith)

pub names_rise : (m : Fenced) (call : FencedCall) → m.next_name ≤ (fenced_step m call).0.next_name
names_rise m call = fenced_step_by m call (λ (x : FencedStepped). m.next_name ≤ x.0.next_name) (λ _. omega arith) (λ _. made_names m call)

abbrev is_reserved : FencedAnswer → Bool
is_reserved (answer.Reserved first) = true
is_reserved (answer.Fenced why) = false
is_reserved (answer.Forfeited) = false
is_reserved (answer.Made after its) = false

abbrev reserved_at : FencedAnswer → ℕ
reserved_at (answer.Reserved first) = first
reserved_at (answer.Fenced why) = 0
reserved_at (answer.Forfeited) = 0
reserved_at (answer.Made after its) = 0

-- a reservation gives the next names
pub gives : (m : Fenced) (term count first : ℕ) → (fenced_step m (Reserve term count)).1 ≡ answer.Reserved first
    → (m.next_name ≡ first) × ((fenced_step m (Reserve term count)).0.next_name ≡ m.next_name + count)
gives m term count first =
    fenced_step_by m (Reserve term count) (λ (x : FencedStepped). x.1 ≡ answer.Reserved first → (m.next_name ≡ first) × (x.0.next_name ≡ m.next_name + count))
    (λ why e. absurd (both_ways true (ap is_reserved (sym e)) refl))
    (λ _ e. (ap reserved_at e, refl))

gives_at : (m : Fenced) (call : FencedCall) (term count first : ℕ) → ◌≡◌ {A = FencedCall × FencedAnswer} (Reserve term count, answer.Reserved first) (call, (fenced_step m call).1)
    → (m.next_name ≡ first) × ((fenced_step m call).0.next_name ≡ m.next_name + count)
gives_at m call term count first e =
    let is : Reserve term count ≡ call = ap (λ (x : FencedCall × FencedAnswer). x.0) e in
    let its : answer.Reserved first ≡ (fenced_step m call).1 = ap (λ (x : FencedCall × FencedAnswer). x.1) e in
    let g = gives m term count first (ap (λ (c : FencedCall). (fenced_step m c).1) is ∙ sym its) in
    (g.0, ap (λ (c : FencedCall). (fenced_step m c).0.next_name) (sym is) ∙ g.1)

-- names that are given in a list lie from the next one on
given_behind : (m : Fenced) (calls : List FencedCall) (term count first : ℕ) (zs : List (FencedCall × FencedAnswer))
    → IsWithin ((Reserve term count, answer.Reserved first) ∷ zs) (along m calls) → m.next_name ≤ first
given_behind m [] term count first zs h = absurd h
given_behind m (call ∷ calls) term count first zs h =
    ⊎_elim
    (λ (i : (◌≡◌ {A = FencedCall × FencedAnswer} (Reserve term count, answer.Reserved first) (call, (fenced_step m call).1)) × IsWithin zs (along (fenced_step m call).0 calls)).
    let g = gives_at m call term count first i.0 in let e : m.next_name ≡ first = g.0 in omega arith)
    (λ (i : IsWithin ((Reserve term count, answer.Reserved first) ∷ zs) (along (fenced_step m call).0 calls)).
    let n : ℕ = (fenced_step m call).0.next_name in
    let a : m.next_name ≤ n = names_rise m call in let b : n ≤ first = given_behind (fenced_step m call).0 calls term count first zs i in omega arith)
    h

given_once : (m : Fenced) (calls : List FencedCall) (ys zs : List (FencedCall × FencedAnswer)) (term count first late more next : ℕ)
    → IsWithin ((Reserve term count, answer.Reserved first) ∷ ys ++ (Reserve late more, answer.Reserved next) ∷ zs) (along m calls) → first + count ≤ next
given_once m [] ys zs term count first late more next h = absurd h
given_once m (call ∷ calls) ys zs term count first late more next h =
    let us : List (FencedCall × FencedAnswer) = ys ++ (Reserve late more, answer.Reserved next) ∷ zs in
    let k : Fenced = (fenced_step m call).0 in
    ⊎_elim
    (λ (i : (◌≡◌ {A = FencedCall × FencedAnswer} (Reserve term count, answer.Reserved first) (call, (fenced_step m call).1)) × IsWithin us (along k calls)).
    let g = gives_at m call term count first i.0 in
    let n : ℕ = k.next_name in
    let e : m.next_name ≡ first = g.0 in
    let d : n ≡ m.next_name + count = g.1 in
    let b : n ≤ next = given_behind k calls late more next zs (within_later ys ((Reserve late more, answer.Reserved next) ∷ zs) (along k calls) i.1) in
    omega arith)
    (λ (i : IsWithin ((Reserve term count, answer.Reserved first) ∷ us) (along k calls)). given_once k calls ys zs term count first late more next i)
    h

pub gives_names_once : (m : Fenced) (events : List Event) → GivesNamesOnce m events
gives_names_once m events xs ys zs term count first late more next e =
    let its : List (FencedCall × FencedAnswer) = along m (world m events).life.kept in
    let one : List (FencedCall × FencedAnswer) = (Reserve term count, answer.Reserved first) ∷ ys ++ (Reserve late more, answer.Reserved next) ∷ zs in
    given_once m (world m events).life.kept ys zs term count first late more next
    (within_later xs one its (subst (λ (t : List (FencedCall × FencedAnswer)). IsWithin t its) e (durable m events).told))
