-- What the counters say of the uses, and that it still holds when records are removed.
use Rattle.ckpt_registry.proofs.Names.{◌≡◌, ℕ, ◌+◌, ◌<◌, ◌^◌, not, ltb, List, [], ◌∷◌, ◌++◌, refl, ap, ◌∙◌, arith, eqb, filter, cases_lt, lt-ltb, le-ltb, append-nil, times, Use, Pin, count}
use Rattle.ckpt_registry.proofs.Names.{is_present, count_by-append, Pinner, Counts, counter, counted_once, AreInRange, Acknowledged, AreRising, Extends, parts_of, uses_in, AreSettled, IsKept}
use Rattle.ckpt_registry.proofs.Names.{is_named, own_files, own_in, own_of, pinned_by, pins_in, pins_of_records, AreCounted, stored, is_owned, triples, without, without_record, files_in, common_steps}
use Rattle.ckpt_registry.proofs.Names.{Bool}
use Rattle.ckpt_registry.proofs.ListLemmas.{count_by-filter_le}
use Rattle.ckpt_registry.proofs.PinLemmas.{AreKept-extended, AreKept-filter, AreKept-push, AreKept-settled, count-pins_in, count-triples_of, own_in-parts, own_in-push, own_in-settled}
use Rattle.ckpt_registry.proofs.PinLemmas.{pins_in-extended, pins_in-filter, pins_in-push, pins_in-settled, pins_of_records-none}

-- the count of a file: its counter, and the pins of records that pin a live record
pub count-stored : (m : Acknowledged) (p : List Pinner) (counts : Counts) → AreCounted m p counts → (f : ℕ) → count (stored m p) f ≡ counter counts f + pins_of_records m f p
count-stored m p counts s f = omega (arith, s.counted f, count-pins_in m p f, count_by-append (λ (u : Use). eqb u.file f) (uses_in m.items) (pins_in m p))

-- exactly the files that are present have a counter
pub is_present-stored : (m : Acknowledged) (p : List Pinner) (counts : Counts) → AreCounted m p counts → (f : ℕ) → is_present (stored m p) f ≡ ltb 0 (counter counts f)
is_present-stored m p counts s f = grind (arith, common_steps, cases_lt, count-stored, le-ltb, lt-ltb, pins_of_records-none)

-- some no longer pin
pub AreCounted-unpinned : (m : Acknowledged) (p q : List Pinner) (owners : List ℕ) (counts after : Counts) → AreCounted m p counts → q ≡ filter (λ one. not (is_named owners one.id)) p
    → ((f : ℕ) → counter after f + times f (own_of owners p) ≡ counter counts f) → AreInRange after → AreCounted m q after
AreCounted-unpinned m p q owners counts after s kept lowered range =
    let u : ℕ → Use → Bool = λ f u. eqb u.file f in
    let pins : pins_in m q ≡ without owners (pins_in m p) = ap (pins_in m) kept ∙ pins_in-filter m owners p in
    record {
      ordered = s.ordered;
      kept = rw kept (AreKept-filter m (λ one. not (is_named owners one.id)) p s.kept);
      counted = λ f. omega (arith, ap (λ os. times f (own_in os)) kept, s.counted f, lowered f, own_in-parts f owners p);
      range = range;
      below = λ f. omega (
        arith,
        ap (λ us. count us f) pins,
        count_by-filter_le (u f) (λ v. not (is_owned owners v)) (pins_in m p),
        s.below f,
        count_by-append (u f) (uses_in m.items)
            (pins_in m q),
        count_by-append (u f) (uses_in m.items) (pins_in m p),
      );
    }

-- a record is removed that some pin
module _ (m n : Acknowledged) (c : ℕ) (p q : List Pinner) (counts after : Counts) (s : AreCounted m p counts) (others : (d : ℕ) → (d ≡ c → ⊥) → parts_of n d ≡ parts_of m d)
    (settled : AreSettled c (parts_of m c) p q) where
  pub AreCounted-gone : AreRising n.items → uses_in n.items ≡ without_record c (uses_in m.items) → ((f : ℕ) → count (uses_in m.items) f ≡ times f (files_in (parts_of m c)) + count (uses_in n.items) f)
      → ((f : ℕ) → counter after f + times f (files_in (parts_of m c)) + times f (own_in p) ≡ counter counts f + times f (own_in q)) → AreInRange after → AreCounted n q after
  AreCounted-gone ordered uses split moved range = record {
    ordered = ordered;
    kept = AreKept-settled m n c others p q s.kept settled;
    counted = λ f. omega (arith, s.counted f, split f, moved f);
    range = range;
    below = λ f.
        let same : count (pins_in n q) f ≡ count (pins_in m p) f = ap (λ us. count us f) (pins_in-settled m n c others p q settled) in
        omega (
          arith,
          same,
          split f,
          s.below f,
          count_by-append (λ (u : Use). eqb u.file f) (uses_in n.items) (pins_in n q),
          count_by-append (λ (u : Use). eqb u.file f) (uses_in m.items)
              (pins_in m p),
        );
  }

-- if a record is removed, its pinners are counted, for files that had a counter
pub counted_once-settled : (m : Acknowledged) (p q : List Pinner) (counts after : Counts) (c f : ℕ) → AreCounted m p counts → AreSettled c (parts_of m c) p q
    → counter after f + times f (own_in p) ≡ counter counts f + times f (own_in q)
    → counted_once after f ≡ counted_once counts f
counted_once-settled m p q counts after c f s settled raised = grind (arith, common_steps, own_in-settled m c f p q settled, pins_of_records-none m f p, s.counted f)

-- records have other parts after those that they had, and the same uses
pub AreCounted-kept : (m n : Acknowledged) (p : List Pinner) (counts after : Counts) → Extends m n → AreRising n.items → uses_in n.items ≡ uses_in m.items
    → ((f : ℕ) → counter after f ≡ counter counts f) → AreInRange after → AreCounted m p counts → AreCounted n p after
AreCounted-kept m n p counts after more ordered uses same range s = record {
  ordered = ordered;
  kept = AreKept-extended m n p more s.kept;
  counted = λ f. rw uses (same f ∙ s.counted f);
  range = range;
  below = λ f. rw (uses, pins_in-extended m n p more s.kept) (s.below f);
}

-- nothing goes
pub AreCounted-unchanged : (m n : Acknowledged) (p : List Pinner) (counts : Counts) → n.items ≡ m.items → AreCounted m p counts → AreCounted n p counts
AreCounted-unchanged m n p counts same s =
    AreCounted-kept m n p counts counts (λ d. ([], rw (same, append-nil (parts_of m d)))) (rw same s.ordered) (ap (λ hs. uses_in hs) same) (λ f. refl) s.range s

-- a subtask acknowledges
pub AreCounted-acknowledged : (m n : Acknowledged) (p : List Pinner) (counts after : Counts) (files : List ℕ) → Extends m n → AreRising n.items
    → ((f : ℕ) → count (uses_in n.items) f ≡ count (uses_in m.items) f + times f files)
    → ((f : ℕ) → counter after f ≡ counter counts f + times f files) → AreInRange after → ((f : ℕ) → count (stored m p) f + times f files < 2 ^ 32) → AreCounted m p counts → AreCounted n p after
AreCounted-acknowledged m n p counts after files more ordered adds raised range fits s = record {
  ordered = ordered;
  kept = AreKept-extended m n p more s.kept;
  counted = λ f. omega (arith, s.counted f, adds f, raised f);
  range = range;
  below = λ f. grind (arith, pins_in-extended m n p more s.kept, adds f, fits f, count_by-append);
}

-- one more pins
pub AreCounted-pushed : (m : Acknowledged) (p : List Pinner) (one : Pinner) (counts after : Counts) → IsKept m one.pins
    → ((f : ℕ) → counter after f ≡ counter counts f + times f (own_files one.pins)) → AreInRange after
    → ((f : ℕ) → count (stored m p) f + times f (pinned_by m one.pins) < 2 ^ 32) → AreCounted m p counts → AreCounted m (p ++ one ∷ []) after
AreCounted-pushed m p one counts after new raised range fits s = record {
  ordered = s.ordered;
  kept = AreKept-push m p one s.kept new;
  counted = λ f. omega (arith, s.counted f, raised f, own_in-push f p one);
  range = range;
  below = λ f.
      let pushed : count (pins_in m (p ++ one ∷ [])) f ≡ count (pins_in m p ++ triples one.id Pin (pinned_by m one.pins)) f = ap (λ us. count us f) (pins_in-push m p one) in
      omega (
        arith,
        pushed,
        fits f,
        count-triples_of one.id f (pinned_by m one.pins),
        count_by-append (λ (u : Use). eqb u.file f) (pins_in m p) (triples one.id Pin (pinned_by m one.pins)),
        count_by-append (λ (u : Use). eqb u.file f) (uses_in m.items) (pins_in m (p ++ one ∷ [])),
        count_by-append (λ (u : Use). eqb u.file f) (uses_in m.items) (pins_in m p),
      );
}
