-- The text of an image of a coordinator with names: the members of an image without them, in another format, and the
-- member `names`.
use Rattle.std.specs.Prelude.{ℕ, ◌==◌, List, [], ◌∷◌, map, codes, if◌then◌else◌, Option, Some, None, option_map, option_and_then}
use Rattle.ckpt_image.specs.Images.{image_of_any_version}
use Rattle.ckpt_image.specs.Members.{list_of, number_of, with_key}
use Rattle.ckpt_image.specs.Written as image
use Rattle.ckpt_model.specs.{Images.state_in, State.State}
use Rattle.ckpt_names_image.specs.{declared.saved.NamesMember.NamesMember, declared.saved.SavedImage.SavedImage}
use Rattle.ckpt_names_image.specs.declared.saved.SavedImage.TheVariants as saved
use Rattle.ckpt_terms.specs.{declared.image.TermsImage.TermsImage, declared.names.Span.Span}
use Rattle.ckpt_answers.specs.MetadataTexts.{list, members, natural}
use Rattle.serde_json.specs.Data.{Data, Items, no_items, item, object, put}
use Rattle.serde_json.specs.{Find.as_array, Read.read, Written.compact_text}

-- what an image with names has
pub record Named : Type 0 where
  pub core : State
  pub term : ℕ
  pub next_name : ℕ
  -- the names that the term holds, as ranges
  pub unspent : List Span

abbrev pub named_in : TermsImage → Named
named_in i = record { core = state_in i.core; term = i.term; next_name = i.next_name; unspent = i.unspent.items }

-- an image without names, or one with them
pub data Saved : Type 0 where
  Plain : State → Saved
  Fenced : Named → Saved

abbrev pub saved_in : SavedImage → Saved
saved_in (saved.Plain i) = Plain (state_in i)
saved_in (saved.Fenced i) = Fenced (named_in i)

-- ---- what is written

-- the format that this page describes
abbrev pub version : ℕ
version = 2

-- a range as a pair
abbrev pub span_data : Span → Data
span_data s = image.naturals (s.from ∷ s.to ∷ [])

unfoldable pub names_data : Named → Data
names_data m =
    object (members ((codes "next", natural m.next_name)
    ∷ (codes "term", natural m.term)
    ∷ (codes "unspent", list (map span_data m.unspent))
    ∷ []))

-- `names` is at its place in the order of the keys
unfoldable pub named_data : Named → Data
named_data m = object (put (codes "names") (names_data m) (members (image.image_members version m.core)))

-- the image as JSON without spaces
unfoldable pub named_bytes : Named → List ℕ
named_bytes m = compact_text (named_data m)

-- ---- how it is read

abbrev pub span_between : ℕ → ℕ → Span
span_between from to = record { from = from; to = to }

-- of exactly two numbers
abbrev pub pair_of : Items → Option Span
pair_of (item a (item b no_items)) = option_and_then (λ from. option_map (span_between from) (number_of b)) (number_of a)
pair_of ds = None

unfoldable pub span_of : Data → Option Span
span_of d = option_and_then pair_of (as_array d)

-- what the member `names` holds
pub record Names : Type 0 where
  pub next : ℕ
  pub term : ℕ
  pub unspent : List Span

abbrev pub names_in_member : NamesMember → Names
names_in_member n = record { next = n.next; term = n.term; unspent = n.unspent.items }

unfoldable pub names_of : Data → Option Names
names_of d =
    with_key (codes "next") number_of d (λ next.
    with_key (codes "term") number_of d (λ term.
    with_key (codes "unspent") (list_of span_of) d (λ unspent.
    Some (record { next = next; term = term; unspent = unspent }))))

abbrev pub with_names : Names → State → Named
with_names n core = record { core = core; term = n.term; next_name = n.next; unspent = n.unspent }

unfoldable pub named_of : Data → Option Named
named_of d = with_key (codes "names") names_of d (λ names. option_map (with_names names) (image_of_any_version d))

-- The image that this JSON describes. The version says whether it has names: one without them is read as ever, and the
-- member `names` has no meaning there.
unfoldable pub saved_of : Data → Option Saved
saved_of d =
    with_key (codes "version") number_of d (λ format.
    if format == image.version
    then option_map (λ m. Plain m) (image_of_any_version d)
    else (if format == version then option_map (λ m. Fenced m) (named_of d) else None))

-- the image that this text describes
unfoldable pub saved_read : List ℕ → Option Saved
saved_read text = option_and_then saved_of (read text)
