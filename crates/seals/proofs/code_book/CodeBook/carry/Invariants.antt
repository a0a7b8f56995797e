use Rattle.std.proofs.Common.{◌≡◌, drop}
use Rattle.seals.specs.CodeBooks.{carried}
use Rattle.seals.proofs.code_book.CodeBook.carry.Given as goal

-- the bytes that are left carry the tag to the answer
abbrev pub invariant-loop-byte : goal.invariant-loop-byte
invariant-loop-byte g l =
    carried (g.W.AsSlice.items l.self.words) l.station l.tag (drop l.byte-index l.message)
    ≡ carried (g.W.AsSlice.items l.self.words) l.station 0 l.message
