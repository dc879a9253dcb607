-- What the registry is once the released files that it showed are no longer looked at.
use Rattle.std.specs.Prelude.{◌≡◌, List, ⊤}
use Rattle.std.specs.Borrow.{follows_so, MutBor, Fml}
use mathlib.Core.Option.{none}
use Rattle.ckpt_ids.specs.Records.{Use}
use Rattle.ckpt_registry.specs.contracts.registry.Registry.{the_row}

-- it has these uses
abbrev pub EndsAs : MutBor (List Use) → List Use → Fml
EndsAs registry us = follows_so the_row the_row registry.ghost_name none (λ _ _. ⊤) (λ last. last ≡ us)
