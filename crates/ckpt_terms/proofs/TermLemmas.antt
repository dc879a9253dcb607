-- What the code of a fenced coordinator does, in the words of its step.
use Rattle.ckpt_terms.proofs.Imports.{◌≡◌, ℕ, ◌+◌, true, false, not, eqb, List, [], ◌++◌, refl, sym, ap, subst, ◌∙◌, Some, None, max, list_any, range_with_len, cond-true, cond-false}
use Rattle.ckpt_terms.proofs.Imports.{not_from_false, not_from_true, eq-eqb, ne_eqb, Call, filter-all, State, Stepped, step, Reserve, Forfeit, Make, Advance, OldTerm, Fenced, fence}
use Rattle.ckpt_terms.proofs.Imports.{fenced_step, without_all, unspent_after, after_call, advanced, restart, fresh_of, ends_the_term, IsFenced, IsCall, Answer, Done, Reply}
use Rattle.ckpt_terms.proofs.Stepping.{fenced_off, fenced_on, reserve_keeps, forfeit_keeps, make_keeps, advance_keeps}
use Rattle.ckpt_terms.specs.declared.call.FencedAnswer.TheVariants as answer

abbrev pub layer : State → ℕ → ℕ → List ℕ → Fenced
layer core term next_name unspent = record { core = core; term = term; next_name = next_name; unspent = unspent }

pub forfeit_off : (m : Fenced) (term : ℕ) (names : List ℕ) → (term ≡ m.term → ⊥) → fenced_step m (Forfeit term names) ≡ (m, answer.Fenced OldTerm)
forfeit_off m term names ne = fenced_off m (Forfeit term names) OldTerm (cond-true (not (eqb term m.term)) (Some OldTerm) None (not_from_false (eqb term m.term) (ne_eqb term m.term ne)))

pub forfeit_passes : (m : Fenced) (term : ℕ) (names : List ℕ) → term ≡ m.term → fence m (Forfeit term names) ≡ None
forfeit_passes m term names e = cond-false (not (eqb term m.term)) (Some OldTerm) None (not_from_true (eqb term m.term) (eq-eqb term m.term e))

pub forfeit_on : (m : Fenced) (term : ℕ) (names left : List ℕ) → term ≡ m.term → left ≡ without_all names m.unspent
    → fenced_step m (Forfeit term names) ≡ (layer m.core m.term m.next_name left, answer.Forfeited)
forfeit_on m term names left e is =
    let P : List ℕ → Type 0 = λ xs. fenced_step m (Forfeit term names) ≡ (layer m.core m.term m.next_name xs, answer.Forfeited) in
    subst P (sym is) (fenced_on m (Forfeit term names) (forfeit_passes m term names e))

pub forfeit_fenced : (m : Fenced) (names left : List ℕ) → left ≡ without_all names m.unspent → IsFenced m → IsFenced (layer m.core m.term m.next_name left)
forfeit_fenced m names left is i = let P : List ℕ → Type 0 = λ xs. IsFenced (layer m.core m.term m.next_name xs) in subst P (sym is) (forfeit_keeps m m.term names i)

pub reserve_on : (m : Fenced) (term count : ℕ) (names : List ℕ) → fence m (Reserve term count) ≡ None → names ≡ m.unspent ++ range_with_len m.next_name count
    → fenced_step m (Reserve term count) ≡ (layer m.core m.term (m.next_name + count) names, answer.Reserved m.next_name)
reserve_on m term count names e is =
    let P : List ℕ → Type 0 = λ xs. fenced_step m (Reserve term count) ≡ (layer m.core m.term (m.next_name + count) xs, answer.Reserved m.next_name) in
    subst P (sym is) (fenced_on m (Reserve term count) e)

pub reserve_fenced : (m : Fenced) (term count : ℕ) (names : List ℕ) → fence m (Reserve term count) ≡ None → names ≡ m.unspent ++ range_with_len m.next_name count → IsFenced m
    → IsFenced (layer m.core m.term (m.next_name + count) names)
reserve_fenced m term count names e is i = let P : List ℕ → Type 0 = λ xs. IsFenced (layer m.core m.term (m.next_name + count) xs) in subst P (sym is) (reserve_keeps m term count e i)

-- a call that ends no term and names no fresh file leaves the held names
pub stays : (unspent : List ℕ) (call : Call) → ends_the_term call ≡ false → fresh_of call ≡ [] → unspent ≡ unspent_after unspent call
stays unspent call goes_on none =
    sym (cond-false (ends_the_term call) [] (without_all (fresh_of call) unspent) goes_on ∙ ap (λ xs. without_all xs unspent) none
    ∙ filter-all (λ f. not (list_any (λ g. eqb f g) [])) unspent (λ _ _. refl))

pub ends_all : (unspent : List ℕ) (call : Call) → ends_the_term call ≡ true → [] ≡ unspent_after unspent call
ends_all unspent call e = sym (cond-true (ends_the_term call) [] (without_all (fresh_of call) unspent) e)

pub spends : (unspent fresh left : List ℕ) (call : Call) → ends_the_term call ≡ false → fresh ≡ fresh_of call → left ≡ without_all fresh unspent → left ≡ unspent_after unspent call
spends unspent fresh left call goes_on same is = is ∙ ap (λ xs. without_all xs unspent) same ∙ sym (cond-false (ends_the_term call) [] (without_all (fresh_of call) unspent) goes_on)

-- a call that reaches the coordinator
pub make_on : (m : Fenced) (term : ℕ) (call : Call) (core : State) (its : Answer) (after : ℕ) (left : List ℕ) → fence m (Make term call) ≡ None → step m.core call ≡ (core, its)
    → after ≡ (after_call m call (core, its)).term → left ≡ (after_call m call (core, its)).unspent → fenced_step m (Make term call) ≡ (layer core after m.next_name left, answer.Made after its)
make_on m term call core its after left e is is_after is_left =
    let Then : Stepped → Type 0 = λ s. fenced_step m (Make term call) ≡ (after_call m call s, answer.Made (after_call m call s).term s.1) in
    let At : ℕ → Type 0 = λ t. fenced_step m (Make term call) ≡ (layer core t m.next_name (after_call m call (core, its)).unspent, answer.Made t its) in
    let Of : List ℕ → Type 0 = λ xs. fenced_step m (Make term call) ≡ (layer core after m.next_name xs, answer.Made after its) in
    subst Of (sym is_left) (subst At (sym is_after) (subst Then is (fenced_on m (Make term call) e)))

pub make_fenced : (m : Fenced) (term : ℕ) (call : Call) (core : State) (its : Answer) (after : ℕ) (left : List ℕ) → IsCall call → fence m (Make term call) ≡ None → step m.core call ≡ (core, its)
    → after ≡ (after_call m call (core, its)).term → left ≡ (after_call m call (core, its)).unspent → IsFenced m → IsFenced (layer core after m.next_name left)
make_fenced m term call core its after left c e is is_after is_left i =
    let Then : Stepped → Type 0 = λ s. IsFenced (after_call m call s) in
    let At : ℕ → Type 0 = λ t. IsFenced (layer core t m.next_name (after_call m call (core, its)).unspent) in
    let Of : List ℕ → Type 0 = λ xs. IsFenced (layer core after m.next_name xs) in
    subst Of (sym is_left) (subst At (sym is_after) (subst Then is (make_keeps m term call c e i)))

-- an advance that reaches the coordinator
pub advance_on : (m : Fenced) (now term first : ℕ) (core : State) (its : Answer) → fence m (Advance now term first) ≡ None → step m.core (restart now) ≡ (core, its)
    → fenced_step m (Advance now term first) ≡ (advanced m now term first (core, its), answer.Made (advanced m now term first (core, its)).term its)
advance_on m now term first core its e is =
    let Then : Stepped → Type 0 = λ s. fenced_step m (Advance now term first) ≡ (advanced m now term first s, answer.Made (advanced m now term first s).term s.1) in
    subst Then is (fenced_on m (Advance now term first) e)

pub advance_fenced : (m : Fenced) (now term first : ℕ) (core : State) (its : Answer) → fence m (Advance now term first) ≡ None → step m.core (restart now) ≡ (core, its)
    → IsFenced m → IsFenced (advanced m now term first (core, its))
advance_fenced m now term first core its e is i =
    let Then : Stepped → Type 0 = λ s. IsFenced (advanced m now term first s) in
    subst Then is (advance_keeps m now term first e i)

-- the same, in the words of the code that raises the floors
pub advance_done : (m : Fenced) (now term first : ℕ) (core : State) (reply : Reply) (last next : ℕ) (left : List ℕ) → fence m (Advance now term first) ≡ None
    → step m.core (restart now) ≡ (core, Done reply) → last ≡ max m.term term → next ≡ max m.next_name first → left ≡ []
    → fenced_step m (Advance now term first) ≡ (layer core (last + 1) next left, answer.Made (last + 1) (Done reply))
advance_done m now term first core reply last next left e is is_last is_next is_left =
    let At : ℕ → ℕ → List ℕ → Type 0 = λ t n xs. fenced_step m (Advance now term first) ≡ (layer core (t + 1) n xs, answer.Made (t + 1) (Done reply)) in
    subst (λ (xs : List ℕ). At last next xs) (sym is_left)
    (subst (λ (n : ℕ). At last n []) (sym is_next)
    (subst (λ (t : ℕ). At t (max m.next_name first) []) (sym is_last) (advance_on m now term first core (Done reply) e is)))

pub advance_done_fenced : (m : Fenced) (now term first : ℕ) (core : State) (reply : Reply) (last next : ℕ) (left : List ℕ) → fence m (Advance now term first) ≡ None
    → step m.core (restart now) ≡ (core, Done reply) → last ≡ max m.term term → next ≡ max m.next_name first → left ≡ [] → IsFenced m
    → IsFenced (layer core (last + 1) next left)
advance_done_fenced m now term first core reply last next left e is is_last is_next is_left i =
    let At : ℕ → ℕ → List ℕ → Type 0 = λ t n xs. IsFenced (layer core (t + 1) n xs) in
    subst (λ (xs : List ℕ). At last next xs) (sym is_left)
    (subst (λ (n : ℕ). At last n []) (sym is_next)
    (subst (λ (t : ℕ). At t (max m.next_name first) []) (sym is_last) (advance_fenced m now term first core (Done reply) e is i)))
