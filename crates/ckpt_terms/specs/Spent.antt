-- Names that no task holds, and that none will: those of known files.
use Rattle.std.specs.Prelude.{ℕ, Bool, ◌&&◌, not, nat_lt}
use Rattle.std.specs.List.{list_all}
use Rattle.ckpt_ids.specs.Records.{Record}
use Rattle.ckpt_model.specs.Images.{record_in}
use Rattle.ckpt_terms.specs.{declared.image.TermsImage.TermsImage, Fencing.Fenced, Fencing.is_unspent, TermsImages.fenced_in}

-- A name that was given out, or that lies below the first one, and that no task holds. It was acknowledged or forfeited, or its
-- term has ended.
abbrev pub is_spent : Fenced → ℕ → Bool
is_spent m f = nat_lt f m.next_name && not (is_unspent m f)

-- each file of the record has such a name
abbrev pub record_is_spent : Fenced → Record → Bool
record_is_spent m r = list_all (λ a. list_all (is_spent m) a.files) r.acks && list_all (is_spent m) r.pins

-- and so has each that is in use, waits for deletion or was fetched
abbrev pub files_are_spent : TermsImage → Bool
files_are_spent i =
    list_all (λ s. record_is_spent (fenced_in i) (record_in s)) i.core.records.items
    && list_all (is_spent (fenced_in i)) i.core.waiting
    && list_all (is_spent (fenced_in i)) i.core.taken
