-- The number of each verdict in paper 01, "Verdicts on reports". Assumes nothing: these are definitions.
use Rattle.std.specs.Prelude.{ℕ}
use Rattle.verdict.specs.declared.verdicts.Verdict.{Verdict}
use Rattle.verdict.specs.declared.verdicts.Verdict.TheVariants.{Kept, Confirmed, UnknownNumber, WrongPublisher, SameNetworks, NotBeforePublication, BeforeSetUp, BeforeLast, EqualsLast, NotToOwner, AlreadyOpen, TooSoon, Full, Lapses, NotPermitted, OwnReport, NotOpen, OtherCode}

abbrev pub number_of : Verdict → ℕ
number_of Kept = 10
number_of Confirmed = 11
number_of UnknownNumber = 12
number_of WrongPublisher = 13
number_of SameNetworks = 14
number_of NotBeforePublication = 15
number_of BeforeSetUp = 16
number_of BeforeLast = 17
number_of EqualsLast = 18
number_of NotToOwner = 19
number_of AlreadyOpen = 20
number_of TooSoon = 21
number_of Full = 22
number_of Lapses = 30
number_of NotPermitted = 31
number_of OwnReport = 32
number_of NotOpen = 33
number_of OtherCode = 34
