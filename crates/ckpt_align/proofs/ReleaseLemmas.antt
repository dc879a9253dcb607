-- Releasing the inputs of a list one after the other.
use Rattle.std.proofs.Common.{◌≡◌, ℕ, ◌+◌, ◌<◌, List, length, get_or, take, drop, map, arith}
use Rattle.std.proofs.lemmas.Grind.{common_steps, drop_more_same}
use Rattle.std.proofs.lemmas.List.{take_more, drop_more, take_more_set, drop-set-lt}
use Rattle.std.specs.Prelude.{slice_set}
use Rattle.ckpt_align.specs.declared.input.Input.{Input}
use Rattle.ckpt_align.specs.declared.input.Input.TheVariants.{Open}
use Rattle.ckpt_align.specs.Alignment.{released}

-- one more
pub released_one_more : (xs ys : List Input) (i : ℕ) (y : Input) → i < length xs → i < length ys → y ≡ released (get_or ys i Open) → take i ys ≡ map released (take i xs) → drop i ys ≡ drop i xs
    → (take (i + 1) (slice_set ys i y) ≡ map released (take (i + 1) xs)) × (drop (i + 1) (slice_set ys i y) ≡ drop (i + 1) xs)
released_one_more xs ys i y within there value done left =
    grind (arith, common_steps, take_more xs i Open within, drop_more xs i Open within, drop_more ys i Open there, take_more_set ys i y there, drop-set-lt (i + 1) ys i y, drop_more_same ys xs i left)
