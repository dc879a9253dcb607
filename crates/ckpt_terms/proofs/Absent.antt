-- The first name that is in no range, name after name.
use Rattle.ckpt_terms.proofs.Imports.{◌≡◌, ℕ, zero, suc, ◌<◌, Bool, true, false, not, eqb, List, [], ◌∷◌, take, get_or, length, sym, ap, ◌∙◌, arith, Option, Some, None, is_some, IfSome}
use Rattle.ckpt_terms.proofs.Imports.{list_any, cond-true, cond-false, or_parts, Span, HasAt, in_span, names_of}
use Rattle.ckpt_terms.proofs.{SpanLemmas.in_spans, RangeLemmas.found_is}
use Rattle.std.specs.Prelude.{find}

abbrev pub is_absent : List ℕ → ℕ → Bool
is_absent names f = not (list_any (λ g. eqb f g) names)

-- what a search among the ranges says of a name
pub absent_is : (spans read : List Span) (names : List ℕ) (name : ℕ) (r : Option (ℕ × Span)) → read ≡ spans → names_of spans ≡ names → IfSome r (λ found. HasAt read found.0 found.1 name)
    → (r ≡ None → list_any (in_span name) read ≡ false) → is_absent names name ≡ not (is_some r)
absent_is spans read names name r same its some none =
    ap (λ (ns : List ℕ). is_absent ns name) (sym its) ∙ ap (λ (xs : List Span). is_absent (names_of xs) name) (sym same) ∙ ap not (in_spans name read ∙ sym (found_is read name r some none))

-- the first element that passes a test, where those before it do not
pub find_first : {X : Type 0} (p : X → Bool) (xs : List X) (i : ℕ) (d : X) → i < length xs → list_any p (take i xs) ≡ false → p (get_or xs i d) ≡ true → find p xs ≡ Some (get_or xs i d)
find_first p [] i d within none here = absurd (omega arith)
find_first p (x ∷ xs) zero d within none here = cond-true (p x) (Some x) (find p xs) here
find_first p (x ∷ xs) (suc i) d within none here =
    let parts = or_parts (p x) (list_any p (take i xs)) none in
    cond-false (p x) (Some x) (find p xs) parts.0 ∙ find_first p xs i d (omega arith) parts.1 here
