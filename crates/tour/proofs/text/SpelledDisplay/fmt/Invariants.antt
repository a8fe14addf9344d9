use Rattle.std.proofs.Common.{take}
use Rattle.std.specs.Fmt.{HasWritten, IsPlainFormatter}
use Rattle.tour.specs.Spelling.{spell}
use Rattle.tour.proofs.text.SpelledDisplay.fmt.Given as goal

abbrev pub invariant-loop-byte : goal.invariant-loop-byte
invariant-loop-byte g l =
    IsPlainFormatter l.initial.f
    → HasWritten g.W.Write.write_str_gives l.initial.f (spell l.self.zero.now l.self.one.now (take l.byte-index l.byte-items)) l.f
