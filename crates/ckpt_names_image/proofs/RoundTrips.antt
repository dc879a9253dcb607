-- The text that is written for a state with names is read as that state, and not as one without names.
use Rattle.ckpt_names_image.proofs.Names.{◌≡◌, ◌↔◌, ℕ, ◌≤◌, Bool, true, false, eqb, List, map, refl, sym, ap, ◌∙◌, ⊎_elim, arith, Option, Some, None, cond, codes, option_and_then}
use Rattle.ckpt_names_image.proofs.Names.{option_map, cases_Bool, State, Fits, image_of, image_of_any_version, image_read, number_of, only, version_of, image_members, all, members_read_back}
use Rattle.ckpt_names_image.proofs.Names.{image_depth, members_have_no_float, shallow_items, Fenced, Named, Plain, Saved, named_data, named_of, names_data, names_of, saved_of, saved_read}
use Rattle.ckpt_names_image.proofs.Names.{span_data, span_of, Span, members, no_floats, Data, object, put, depth, items_depth, members_depth, get, max_depth, read, items_of, has_float}
use Rattle.ckpt_names_image.proofs.Placed.{depth_put, float_put}

-- ---- it is read back

span_back : (s : Span) → span_of (span_data s) ≡ Some s
unfolding span_of
span_back s = refl

names_back : (m : Named) → names_of (names_data m) ≡ Some (record { next = m.next_name; term = m.term; unspent = m.unspent })
unfolding names_of names_data
names_back m = rw (all span_of span_data m.unspent (λ s there. span_back s)) refl

-- no other member is read otherwise
same_image : (m : State) (d : Data) → image_of_any_version (object (put (codes "names") d (members (image_members 2 m)))) ≡ image_of_any_version (object (members (image_members 2 m)))
unfolding image_of_any_version
same_image m d = refl

named_back : (m : Named) → Fits m.core → named_of (named_data m) ≡ Some m
unfolding named_of named_data
named_back m fits = rw (names_back m, same_image m.core (names_data m), members_read_back 2 m.core fits) refl

version_is : (m : Named) → option_and_then number_of (get (codes "version") (named_data m)) ≡ Some 2
unfolding named_data
version_is m = refl

pub saved_back : (m : Named) → Fits m.core → saved_of (named_data m) ≡ Some (Fenced m)
unfolding saved_of
saved_back m fits = rw (version_is m, named_back m fits) refl

-- ---- without names

pub is_no_plain : (m : Named) → image_of (named_data m) ≡ None
unfolding image_of named_data version_of
is_no_plain m = refl

-- ---- no float, and not deep

names_float : (m : Named) → has_float (names_data m) ≡ false
unfolding names_data
names_float m = rw (no_floats span_data m.unspent (λ s. refl)) refl

pub named_has_no_float : (m : Named) → has_float (named_data m) ≡ false
unfolding named_data
named_has_no_float m = float_put (codes "names") (names_data m) (members (image_members 2 m.core)) (names_float m) (members_have_no_float 2 m.core)

names_depth : (m : Named) → depth (names_data m) ≤ 3
unfolding names_data
names_depth m = let spans : items_depth (items_of (map span_data m.unspent)) ≤ 1 = shallow_items 1 span_data m.unspent (λ s. omega arith) in omega arith

pub named_is_shallow : (m : Named) → depth (named_data m) ≤ max_depth
unfolding named_data
named_is_shallow m =
    let names : depth (names_data m) ≤ 3 = names_depth m in
    let image : depth (object (members (image_members 2 m.core))) ≤ 7 = image_depth 2 m.core in
    let both : members_depth (put (codes "names") (names_data m) (members (image_members 2 m.core))) ≤ 6 =
    depth_put (codes "names") (names_data m) (members (image_members 2 m.core)) 6 (omega arith) (omega arith) in
    omega arith

-- ---- an image without names is read as ever

abbrev plain_in : Option Saved → Option State
plain_in None = None
plain_in (Some (Plain m)) = Some m
plain_in (Some (Fenced m)) = None

from_plain : (any : Option State) (m : State) → option_map (λ k. Plain k) any ≡ Some (Plain m) → any ≡ Some m
from_plain None m e = ap plain_in e
from_plain (Some k) m e = ap plain_in e

no_plain : (named : Option Named) (m : State) → option_map (λ k. Fenced k) named ≡ Some (Plain m) → ⊥
no_plain None m e = let f : None ≡ Some m = ap plain_in e in absurd (cc)
no_plain (Some k) m e = let f : None ≡ Some m = ap plain_in e in absurd (cc)

by_version : (n : ℕ) (any : Option State) (named : Option Named) (m : State)
    → (cond (eqb n 1) (option_map (λ k. Plain k) any) (cond (eqb n 2) (option_map (λ k. Fenced k) named) None) ≡ Some (Plain m)) ↔ (option_and_then (λ _. any) (only (λ k. eqb k 1) n) ≡ Some m)
by_version n any named m =
    ⊎_elim
    (λ (e : eqb n 1 ≡ true). rw (e) (λ h. from_plain any m h, λ h. ap (option_map (λ k. Plain k)) h))
    (λ (e : eqb n 1 ≡ false). rw (e) (λ h. absurd (by_two (eqb n 2) h), λ h. absurd (cc)))
    (cases_Bool (eqb n 1))
  where
    by_two : (b : Bool) → cond b (option_map (λ k. Fenced k) named) None ≡ Some (Plain m) → ⊥
    by_two true h = no_plain named m h
    by_two false h = absurd (cc)

by_number : (o : Option ℕ) (any : Option State) (named : Option Named) (m : State)
    → (option_and_then (λ n. cond (eqb n 1) (option_map (λ k. Plain k) any) (cond (eqb n 2) (option_map (λ k. Fenced k) named) None)) o ≡ Some (Plain m)) ↔
    (option_and_then (λ _. any) (option_and_then (only (λ k. eqb k 1)) o) ≡ Some m)
by_number None any named m = (λ h. absurd (cc), λ h. absurd (cc))
by_number (Some n) any named m = by_version n any named m

by_member : (o : Option Data) (any : Option State) (named : Option Named) (m : State)
    → (option_and_then (λ n. cond (eqb n 1) (option_map (λ k. Plain k) any) (cond (eqb n 2) (option_map (λ k. Fenced k) named) None)) (option_and_then number_of o) ≡ Some (Plain m)) ↔
    (option_and_then (λ _. any) (option_and_then version_of o) ≡ Some m)
unfolding version_of
by_member None any named m = (λ h. absurd (cc), λ h. absurd (cc))
by_member (Some d) any named m = by_number (number_of d) any named m

pub plain_as_ever : (d : Data) (m : State) → (saved_of d ≡ Some (Plain m)) ↔ (image_of d ≡ Some m)
unfolding saved_of image_of
plain_as_ever d m = by_member (get (codes "version") d) (image_of_any_version d) (named_of d) m

-- a text that is read as an image without names is read so among both kinds
pub plain_text_back : (text : List ℕ) (m : State) → image_read text ≡ Some m → saved_read text ≡ Some (Plain m)
unfolding image_read saved_read
plain_text_back text m is = by (read text) refl
  where
    by : (found : Option Data) → read text ≡ found → option_and_then saved_of (read text) ≡ Some (Plain m)
    by (Some d) e = ap (option_and_then saved_of) e ∙ (plain_as_ever d m).1 (ap (option_and_then image_of) (sym e) ∙ is)
    by None e =
        let none : ◌≡◌ {A = Option State} None (Some m) = ap (option_and_then image_of) (sym e) ∙ is in
        absurd cc
