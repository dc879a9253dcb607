-- What a handle owns.
use mathlib.Core.Path.{◌≡◌}
use base.Fml.{Fml, ftrue, fex}
use denote.RawPtr.{Ptr, null_ptr}
use Rattle.std.specs.{Option.option_and_then, Option.option_map, declared.option.Option.Option, declared.option.Option.TheVariants.None, declared.option.Option.TheVariants.Some}
use Rattle.std.specs.{declared.alloc.Global.Global, contracts.impls.GlobalAllocator.TheImpl.ghosts}
use Rattle.std_alloc.specs.Box.Ownership.{box_owns}
use Rattle.ckpt_model.specs.State.{State}
use Rattle.ckpt_terms.specs.Machines.{Issued, core_in, names_in}
use Rattle.ckpt_logged.specs.{contracts.logged.Logged.the_row, Chronicles.Chronicle}

-- the allocator, of which there is only one value
abbrev pub heap : Global
heap = record { memory = record { seal = tt } }

abbrev pub state_in : Chronicle → State
state_in c = core_in c.now

abbrev pub issued_in : Chronicle → Option Issued
issued_in c = names_in c.now

-- the coordinator, if there is one, has this state, these names and this past
abbrev pub IsHeld : Option Chronicle → Option State → Option Issued → Option Chronicle → Type 0
IsHeld held value names past = (option_map state_in held ≡ value) × (option_and_then issued_in held ≡ names) × (held ≡ past)

-- null if there is no past, otherwise the box of the coordinator with this past, with the right to free it
abbrev pub kept : Ptr → Option State → Option Issued → Option Chronicle → Fml
kept p value names None = fex ((p ≡ null_ptr) × IsHeld None value names None) (λ _. ftrue)
kept p value names (Some c) = fex (IsHeld (Some c) value names (Some c)) (λ _. box_owns (ghosts.dealloc_token heap) the_row p c)
