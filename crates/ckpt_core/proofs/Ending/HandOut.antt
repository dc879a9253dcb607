-- Released files can be put into the outbox. It has reserved room for all files in use. No file is there twice, and the outbox knows none.
use Rattle.ckpt_core.proofs.Names.{◌≡◌, ℕ, ◌≤◌, true, false, not, eqb, List, [], map, length, ltb, refl, ap, ◌∙◌, arith, lt-ltb, eq-eqb, length-filter, count_by-le-length, IsIn, AreDistinct}
use Rattle.ckpt_core.proofs.Names.{ascending_set, Use, count, is_present, released, Queues, is_in, is_known, present_in, ascending-released, before-from_released, counted-from_IsIn}
use Rattle.ckpt_core.proofs.Names.{AreDistinct-from_order, IsIn-from_in_order_once, IsIn-from_map, filter-none, IsIn-from_test, numbers_in_order, common_steps}

-- there are at most as many released files as files that were present
pub released_room : (before after : List Use) (room : ℕ) → present_in before ≤ room → length (released before after) ≤ room
released_room before after room h = grind (arith, common_steps, count_by-le-length, length-filter)

-- each is there once
pub released_once : (before after : List Use) → AreDistinct (released before after)
released_once before after = AreDistinct-from_order numbers_in_order (released before after) (ascending-released before after)

-- a use of a file makes it present
pub present-from_use : (u : Use) (us : List Use) → IsIn u us → is_present us u.file ≡ true
present-from_use u us h = lt-ltb 0 (count us u.file) (counted-from_IsIn (λ v. eqb v.file u.file) u us h (eq-eqb u.file u.file refl))

pub present-from_released : (f : ℕ) (before after : List Use) → is_in f (released before after) ≡ true → is_present before f ≡ true
present-from_released f before after h = let q = before-from_released f before after (IsIn-from_test f (released before after) h) in rw q.2 (present-from_use q.0 before q.1)

-- and none is in the outbox, since none that was present is
pub released_unknown : (before after : List Use) (q : Queues) → ((f : ℕ) → is_present before f ≡ true → is_known q f ≡ false) → (f : ℕ) → is_in f (released before after) ≡ true → is_known q f ≡ false
released_unknown before after q unknown f h = unknown f (present-from_released f before after h)

-- what `put` requires
pub record CanBePut (files : List ℕ) (q : Queues) : Type 0 where
  pub room : length files ≤ q.spare
  pub distinct : AreDistinct files
  pub unknown : (f : ℕ) → is_in f files ≡ true → is_known q f ≡ false

pub can_be_put : (before after : List Use) (q : Queues) (files : List ℕ) → files ≡ released before after → present_in before ≤ q.spare → ((f : ℕ) → is_present before f ≡ true → is_known q f ≡ false) →
    CanBePut files q
can_be_put before after q files is room unknown = grind (arith, common_steps, released_once, released_room, released_unknown)

-- if all uses stay, no file is released
pub nothing_released : (us : List Use) → released us us ≡ []
nothing_released us =
    let file : Use → ℕ = λ u. u.file in
    filter-none (λ f. not (is_present us f)) (ascending_set (map file us)) (λ f h. let q = IsIn-from_map file f us (IsIn-from_in_order_once ltb f (map file us) h) in ap not
    (ap (is_present us) q.2 ∙ present-from_use q.0 us q.1))
