-- What a text is read as: JSON first, then an image of this version. `Reads` ties a function to what is read.
use Rattle.std.specs.Prelude.{◌≡◌, ◌≢◌, ℕ, ◌^◌, List, codes, Option, Some, None, option_and_then, Result, Ok, Err}
use Rattle.ckpt_model.specs.State.{State}
use Rattle.ckpt_image.specs.declared.fault.TextFault.{TextFault}
use Rattle.ckpt_image.specs.declared.fault.TextFault.TheVariants.{Memory, NotJson}
use Rattle.ckpt_image.specs.Members.{clock_of, list_of, mode_of, number_below, number_of, opening_of, optional_of, outbox_of, saved_of, shape_of, version_of, with_key}
use Rattle.serde_json.specs.Data.{Data}
use Rattle.serde_json.specs.Read.{read}

-- the state that these members describe, whatever the format
unfoldable pub image_of_any_version : Data → Option State
image_of_any_version d =
    with_key (codes "base") optional_of d (λ base.
    with_key (codes "clock") clock_of d (λ clock.
    with_key (codes "failures") (number_below (2 ^ 32)) d (λ failures.
    with_key (codes "mode") mode_of d (λ mode.
    with_key (codes "next") number_of d (λ next.
    with_key (codes "opening") opening_of d (λ opening.
    with_key (codes "outbox") outbox_of d (λ outbox.
    with_key (codes "records") (list_of saved_of) d (λ records.
    with_key (codes "shape") shape_of d (λ shape.
    Some (record {
      opening = opening;
      shape = shape;
      mode = mode;
      latest = clock.latest;
      due = clock.due;
      completed = clock.completed;
      failures = failures;
      next = next;
      base = base;
      records = records;
      waiting = outbox.waiting;
      taken = outbox.taken;
    }))))))))))

-- the state that this JSON is an image of
unfoldable pub image_of : Data → Option State
image_of d = with_key (codes "version") version_of d (λ version. image_of_any_version d)

-- the state that this text is an image of
unfoldable pub image_read : List ℕ → Option State
image_read text = option_and_then image_of (read text)

-- A function that reads a JSON value returned the value that the definition reads, or `NoImage` if there is none,
-- unless memory ran out.
abbrev pub Reads : {X Y : Type 0} → (X → Y) → Result X TextFault → Option Y → Type 0
Reads shown (Ok x) read = read ≡ Some (shown x)
Reads shown (Err why) read = (why ≢ NotJson) × (why ≢ Memory → read ≡ None)
