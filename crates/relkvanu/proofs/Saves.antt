-- What a save writes is the text of an image, and opens a handle with what was saved.
use Rattle.relkvanu.proofs.Imports.{◌≡◌, ℕ, List, refl, sym, ap, ◌∙◌, subst, Some, None, take, IsUtf8, CanHold, settled, state_in, State, image_read, Fenced, Saved, named_in, saved_read}
use Rattle.relkvanu.proofs.Imports.{plain_text_back, TermsImage, Span, issued_by, ranges_of, CanOpenFenced, fenced_in, fenced_settled, IsWell, Answer, CanBeOpened, OpensAgain, Tells}
use Rattle.relkvanu.proofs.Imports.{fenced_from, image_by, image_with, opened_with}
use Rattle.ckpt_names_image.specs.Named.{Named, Plain}
use Rattle.ckpt_terms.specs.declared.machine.Machine.TheVariants as machine
use Rattle.ckpt_terms.specs.Fencing as fencing

-- the coordinator of a text that describes one is sound
pub told_well : (bytes : List ℕ) (s : Saved) → Tells bytes s → IsWell (opened_with s)
unfolding CanBeOpened opened_with
told_well bytes (Plain m) tells = tells.2.sound
told_well bytes (Fenced i) tells = tells.2.1.fenced

-- ---- without names

pub plain_tells : (text : List ℕ) (m n : State) → IsUtf8 text → image_read text ≡ Some n → n ≡ m → CanHold n → Tells text (Plain m)
unfolding CanBeOpened
plain_tells text m n utf8 back is can = (utf8, plain_text_back text m (back ∙ ap (λ (k : State). Some k) is), subst CanHold is can)

pub plain_opens : (m : State) (new : List ℕ) (answer : Answer) → (answer.code ≡ 0 → Tells (take answer.a new) (Plain (settled m))) → OpensAgain m None new answer
unfolding opened_with
plain_opens m new answer tells = λ done. (tells done, refl)

-- ---- with names

abbrev with_spans : fencing.Fenced → List Span → Named
with_spans m spans = record { core = m.core; term = m.term; next_name = m.next_name; unspent = spans }

pub image_is : (i : TermsImage) (m : fencing.Fenced) → fenced_in i ≡ fenced_settled m → i.unspent.items ≡ ranges_of m.unspent
    → named_in i ≡ image_with m.core (issued_by m)
image_is i m value fewest = ap (λ (f : fencing.Fenced). with_spans f i.unspent.items) value ∙ ap (with_spans (fenced_settled m)) fewest

pub named_tells : (text : List ℕ) (i : TermsImage) → IsUtf8 text → saved_read text ≡ Some (Fenced (named_in i)) → CanOpenFenced i
    → Tells text (Fenced (named_in i))
unfolding CanBeOpened
named_tells text i utf8 back can = (utf8, back, (can.ranges, can.state))

pub named_opens : (i : TermsImage) (m : fencing.Fenced) (new : List ℕ) (answer : Answer) → fenced_in i ≡ fenced_settled m → i.unspent.items ≡ ranges_of m.unspent
    → (answer.code ≡ 0 → Tells (take answer.a new) (Fenced (named_in i))) → OpensAgain m.core (Some (issued_by m)) new answer
unfolding opened_with
named_opens i m new answer value fewest tells = λ done.
    let is : named_in i ≡ image_with m.core (issued_by m) = image_is i m value fewest in
    let now : Tells (take answer.a new) (image_by m.core (Some (issued_by m))) = subst (λ (n : Named). Tells (take answer.a new) (Fenced n)) is (tells done) in
    (now, ap (λ (f : fencing.Fenced). machine.Fenced f) (ap fenced_from (sym is) ∙ value))
