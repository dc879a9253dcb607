-- A book and a pass may go to another thread, and threads may share a lock.
use Rattle.ckpt_core.proofs.Crossings.{core_send, declared_send}
use Rattle.std.proofs.Crossing.{crosses, frees}
use denote.Param.Send.{AllSend, AllSync, IsSend, IsSync, recorded_sync, sendable, struct_sync, view_send, view_sync}
use denote.Struct.Declared.{Declared, fields, row, shape}
use denote.Struct.Struct.{Struct}
use Rattle.atomic_table.proofs.send_lease.SendLease.TheSendSync as lease
use Rattle.atomic_table.proofs.shared.Seat.TheSendSync as seat
use Rattle.atomic_table.proofs.shared.Shared.TheSendSync as shared
use Rattle.ckpt_locked.specs.contracts.book.Entry as Entry
use Rattle.ckpt_locked.specs.contracts.book.Book as Book
use Rattle.ckpt_locked.specs.contracts.book.Book.TheInside as InBook
use Rattle.ckpt_locked.specs.contracts.lock.Locked as Locked
use Rattle.ckpt_locked.specs.contracts.lock.Locked.TheInside as InLocked
use Rattle.ckpt_locked.specs.contracts.lock.Pass as Pass
use Rattle.ckpt_locked.specs.contracts.lock.Pass.TheInside as InPass

-- a struct may be shared if its fields may be
declared_sync : (T : Declared) → AllSync (fields T) → IsSync (row T)
declared_sync T s = recorded_sync (Struct (shape T)) T.D T.to T.to_one (struct_sync (shape T) s)

entry_send : IsSend Entry.the_row
entry_send = search (sendable, crosses) depth 80 fits 20000

book_fields : AllSend (fields InBook.the_type)
book_fields = search (core_send, entry_send, sendable, crosses) depth 80 fits 20000

pub book_send : IsSend Book.the_row
book_send = view_send _ _ _ _ _ (declared_send InBook.the_type book_fields)

pass_fields : AllSend (fields InPass.the_type)
pass_fields = search (book_send, seat.the_send, sendable, crosses) depth 40 fits 20000

pub pass_send : IsSend Pass.the_row
pass_send = view_send _ _ _ _ _ (declared_send InPass.the_type pass_fields)

locked_fields : AllSync (fields InLocked.the_type)
locked_fields = search (book_send, shared.the_sync, lease.the_sync, frees, sendable, crosses) depth 60 fits 20000

pub locked_sync : IsSync Locked.the_row
locked_sync = view_sync _ _ _ _ _ (declared_sync InLocked.the_type locked_fields)
