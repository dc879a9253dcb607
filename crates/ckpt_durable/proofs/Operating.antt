-- What a program does with durable coordinators is a list of events.
use Rattle.ckpt_durable.proofs.Names.{◌≡◌, ℕ, zero, suc, List, [], ◌∷◌, ◌++◌, take, refl, sym, ap, ◌∙◌, subst, ⊎_elim, append_assoc, append-nil, FencedAnswer, FencedCall, Fenced}
use Rattle.ckpt_durable.proofs.Names.{AreFencedCalls, AreEvents, Event, Life, Made, Committed, Crashed, World, goes_on, happens, started, Operation, Makes, Commits, FailsToMake, Ends}
use Rattle.ckpt_durable.proofs.Names.{IsAWorld, Performed, asked, recovered, returned}

-- as many as n of these, and no more than there are
abbrev at_most : ℕ → List FencedCall → ℕ
at_most zero xs = zero
at_most (suc n) [] = zero
at_most (suc n) (x ∷ xs) = suc (at_most n xs)

take_at_most : (n : ℕ) (xs ys : List FencedCall) → take (at_most n xs) (xs ++ ys) ≡ take n xs
take_at_most zero xs ys = refl
take_at_most (suc n) [] ys = refl
take_at_most (suc n) (x ∷ xs) ys = ap (λ (zs : List FencedCall). x ∷ zs) (take_at_most n xs ys)

-- from a world on
abbrev ending : World → List Operation → Life → World
ending w operations last = record { life = last; told = w.told ++ returned operations; made = w.made ++ asked operations }

abbrev GoesOn : Fenced → World → List Operation → Life → Type 0
GoesOn m w operations last = (events : List Event) × (goes_on m w events ≡ ending w operations last) × (AreFencedCalls (asked operations) → AreEvents events)

-- the world after a call
with_call : (m : Fenced) (w : World) (call : FencedCall) (operations : List Operation) (last : Life)
    → ◌≡◌ {A = World} (record { life = last; told = w.told ++ returned operations; made = (w.made ++ call ∷ []) ++ asked operations })
    (record { life = last; told = w.told ++ returned operations; made = w.made ++ call ∷ asked operations })
with_call m w call operations last =
    ap (λ (made : List FencedCall). record { life = last; told = w.told ++ returned operations; made = made }) (append_assoc w.made (call ∷ []) (asked operations))

goes : (m : Fenced) (w : World) (operations : List Operation) (last : Life) → Performed m w.life operations last → GoesOn m w operations last
goes m w [] last h = (
  [],
  ap (λ (l : Life). record { life = l; told = w.told; made = w.made }) h
      ∙ ap (λ (told : List (FencedCall × FencedAnswer)). record { life = last; told = told; made = w.made }) (sym (append-nil w.told))
      ∙ ap (λ (made : List FencedCall). record { life = last; told = w.told ++ []; made = made }) (sym (append-nil w.made)),
  λ _. tt,
)
goes m w (Makes call ∷ operations) last h =
    let next : World = happens m w (Made call) in
    let rest : GoesOn m next operations last = goes m next operations last (subst (λ (l : Life). Performed m l operations last) h.1 h.2) in
    (Made call ∷ rest.0, rest.1 ∙ with_call m w call operations last, λ a. (a.0, rest.2 a.1))
goes m w (Commits answers ∷ operations) last h =
    let next : World = happens m w Committed in
    let rest : GoesOn m next operations last = goes m next operations last (subst (λ (l : Life). Performed m l operations last) h.1.0 h.2) in
    let told : (w.told ++ w.life.waiting) ++ returned operations ≡ w.told ++ (answers ++ returned operations) =
    append_assoc w.told w.life.waiting (returned operations)
    ∙ ap (λ (xs : List (FencedCall × FencedAnswer)). w.told ++ (xs ++ returned operations)) (sym h.1.1) in (
      Committed ∷ rest.0,
      rest.1 ∙ ap (λ (xs : List (FencedCall × FencedAnswer)). record { life = last; told = xs; made = w.made ++ asked operations }) told,
      rest.2,
    )
goes m w (FailsToMake call n ∷ operations) last h =
    let made : World = happens m w (Made call) in
    let loose : List FencedCall = h.1.0 in
    let found : (k : ℕ) → take k (w.life.loose ++ call ∷ []) ≡ take n loose → GoesOn m w (FailsToMake call n ∷ operations) last =
    λ k same.
    let next : World = happens m made (Crashed k) in
    let is : h.0 ≡ next.life = h.1.2 ∙ ap (recovered m w.life.kept) (sym same) in
    let rest : GoesOn m next operations last = goes m next operations last (subst (λ (l : Life). Performed m l operations last) is h.2) in
    (Made call ∷ Crashed k ∷ rest.0, rest.1 ∙ with_call m w call operations last, λ a. (a.0, rest.2 a.1)) in
    ⊎_elim
    (λ (is : loose ≡ w.life.loose). found (at_most n w.life.loose) (take_at_most n w.life.loose (call ∷ []) ∙ ap (take n) (sym is)))
    (λ (is : loose ≡ w.life.loose ++ call ∷ []). found n (ap (take n) (sym is)))
    h.1.1
goes m w (Ends n ∷ operations) last h =
    let next : World = happens m w (Crashed n) in
    let rest : GoesOn m next operations last = goes m next operations last (subst (λ (l : Life). Performed m l operations last) h.1 h.2) in
    (Crashed n ∷ rest.0, rest.1, rest.2)

pub is_a_world : (m : Fenced) (operations : List Operation) (last : Life) → IsAWorld m operations last
is_a_world m operations last h = goes m (started m) operations last h
