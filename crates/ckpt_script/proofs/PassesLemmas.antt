-- What was written and what waits, from step to step.
use Rattle.ckpt_script.proofs.Names.{◌≡◌, ℕ, List, [], ◌++◌, Option, None, Some, refl, sym, ap, subst, ◌∙◌, append_assoc, append-nil, Appends, Keeps, Result, Ok, Err, OnErr, IfErr, IsCut, Passes}
use Rattle.std.specs.Result.{IsErrAnd}

pub Appends-trans : (a b c : Option (List ℕ)) (xs ys : List ℕ) → Appends a b xs → Appends b c ys → Appends a c (xs ++ ys)
Appends-trans None b c xs ys p q = tt
Appends-trans (Some a) (Some b) (Some c) xs ys p q = q ∙ ap (λ (zs : List ℕ). zs ++ ys) p ∙ append_assoc a xs ys
Appends-trans (Some a) (Some b) None xs ys p q = q
Appends-trans (Some a) None c xs ys p q = absurd p

pub Appends-none : (a : Option (List ℕ)) → Appends a a []
Appends-none None = tt
Appends-none (Some a) = sym (append-nil a)

pub Appends-kept : (a b c : Option (List ℕ)) (xs : List ℕ) → Appends a b xs → Keeps b c → Appends a c xs
Appends-kept None b c xs p q = tt
Appends-kept (Some a) (Some b) (Some c) xs p q = q ∙ p
Appends-kept (Some a) (Some b) None xs p q = q
Appends-kept (Some a) None c xs p q = absurd p

pub Appends-as : (a b : Option (List ℕ)) (xs ys : List ℕ) → xs ≡ ys → Appends a b xs → Appends a b ys
Appends-as None b xs ys e p = tt
Appends-as (Some a) (Some b) xs ys e p = p ∙ ap (λ (zs : List ℕ). a ++ zs) e
Appends-as (Some a) None xs ys e p = p

-- a prefix of what waited was written
pub passes_part : (before after : Option (List ℕ)) (waiting text : List ℕ) (cut : IsCut before after waiting) → Passes before after waiting text (cut.1 ++ text)
passes_part before after waiting text cut = record {
  written = cut.0;
  appended = cut.2;
  in_turn = sym (append_assoc cut.0 cut.1 text) ∙ ap (λ (zs : List ℕ). zs ++ text) cut.3;
}

-- nothing was written
pub passes_none : (before : Option (List ℕ)) (waiting text : List ℕ) → Passes before before waiting text (waiting ++ text)
passes_none before waiting text = record { written = []; appended = Appends-none before; in_turn = refl }

-- the text waited as well
pub passes_said : (before after : Option (List ℕ)) (waiting text left : List ℕ) → Passes before after (waiting ++ text) [] left → Passes before after waiting text left
passes_said before after waiting text left p = record {
  written = p.written;
  appended = p.appended;
  in_turn = p.in_turn ∙ append-nil (waiting ++ text);
}

-- nothing more was shown
pub passes_on : {before between after : Option (List ℕ)} {waiting middle left : List ℕ} → Passes before between waiting [] middle
    → Passes between after middle [] left → Passes before after waiting [] left
passes_on {before} {between} {after} {waiting} {middle} {left} p q = record {
  written = p.written ++ q.written;
  appended = Appends-trans before between after p.written q.written p.appended q.appended;
  in_turn = append_assoc p.written q.written left ∙ ap (λ (zs : List ℕ). p.written ++ zs) (q.in_turn ∙ append-nil middle) ∙ p.in_turn;
}

-- on either side of a result

pub on_err_map : {T E : Type 0} (r : Result T E) {P : E → Type 0} {Q : Type 0} → ((e : E) → P e → Q) → IfErr r P → OnErr r Q
on_err_map (Ok x) f p = tt
on_err_map (Err e) f p = f e p

pub if_err_both : {T E : Type 0} (r : Result T E) {P Q R : E → Type 0} → ((e : E) → P e → Q e → R e) → IfErr r P → IfErr r Q → IfErr r R
if_err_both (Ok x) f p q = tt
if_err_both (Err e) f p q = f e p q

-- the exit of a `?` that passes an error on
pub if_err_is : {T E : Type 0} (r : Result T E) (x : E) (P : E → Type 0) → IsErrAnd r (λ y. y ≡ x) → P x → IfErr r P
if_err_is (Ok z) x P e p = tt
if_err_is (Err y) x P e p = subst P (sym e) p

pub from_err : {T E : Type 0} (r : Result T E) (x : E) (P : Result T E → Type 0) → IsErrAnd r (λ y. y ≡ x) → P (Err x) → P r
from_err (Ok z) x P e p = absurd e
from_err {T} {E} (Err y) x P e p = subst (λ (w : E). P (Err w)) (sym e) p
