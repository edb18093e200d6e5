-- The numbers of kinds and of reasons in frames.
use Rattle.std.specs.Prelude.{ℕ, ◌==◌, List, [], ◌∷◌, Option, Some, None, if◌then◌else◌}
use Rattle.sr_cell.specs.declared.fault.Why.{Why}
use Rattle.sr_cell.specs.declared.fault.Why.TheVariants.{LongText, BadToken, Grammar, Deep, UnknownTable, UnknownColumn, Ambiguous, WrongType, OutOfDomain, NotKeyJoin, Repeated, WrongCount, Mixed, TooWide, TooManyTables, NotAWrite, NotAQuery, DuplicateKey, DomainCell, LongCell, KeyChange, TableFull, TooManyChanges, DuplicateName, TooManyColumns, NoKey, BadDomain, BadHeader, BadRecord, BadNumber, BadUtf8, BadNull, NullCell}
use Rattle.sr_wire.specs.declared.kind.FrameKind.{FrameKind}
use Rattle.sr_wire.specs.declared.kind.FrameKind.TheVariants.{Hello, Resume, Ask, Write, Welcome, Notice, Rows, Reply, Written, Refused, Lapse}

-- a client sends the kinds below 0x10, a server the others
abbrev pub kind_byte : FrameKind → ℕ
kind_byte Hello = 0x01
kind_byte Resume = 0x02
kind_byte Ask = 0x03
kind_byte Write = 0x04
kind_byte Welcome = 0x11
kind_byte Notice = 0x12
kind_byte Rows = 0x13
kind_byte Reply = 0x14
kind_byte Written = 0x15
kind_byte Refused = 0x16
kind_byte Lapse = 0x17

-- the kind of that number
abbrev pub kind_at : ℕ → Option FrameKind
kind_at n =
    if n == 0x01 then Some Hello
    else if n == 0x02 then Some Resume
    else if n == 0x03 then Some Ask
    else if n == 0x04 then Some Write
    else if n == 0x11 then Some Welcome
    else if n == 0x12 then Some Notice
    else if n == 0x13 then Some Rows
    else if n == 0x14 then Some Reply
    else if n == 0x15 then Some Written
    else if n == 0x16 then Some Refused
    else if n == 0x17 then Some Lapse
    else None

-- the reasons are numbered from 1
abbrev pub why_byte : Why → ℕ
why_byte LongText = 1
why_byte BadToken = 2
why_byte Grammar = 3
why_byte Deep = 4
why_byte UnknownTable = 5
why_byte UnknownColumn = 6
why_byte Ambiguous = 7
why_byte WrongType = 8
why_byte OutOfDomain = 9
why_byte NotKeyJoin = 10
why_byte Repeated = 11
why_byte WrongCount = 12
why_byte Mixed = 13
why_byte TooWide = 14
why_byte TooManyTables = 15
why_byte NotAWrite = 16
why_byte NotAQuery = 17
why_byte DuplicateKey = 18
why_byte DomainCell = 19
why_byte LongCell = 20
why_byte KeyChange = 21
why_byte TableFull = 22
why_byte TooManyChanges = 23
why_byte DuplicateName = 24
why_byte TooManyColumns = 25
why_byte NoKey = 26
why_byte BadDomain = 27
why_byte BadHeader = 28
why_byte BadRecord = 29
why_byte BadNumber = 30
why_byte BadUtf8 = 31
why_byte BadNull = 32
why_byte NullCell = 33

-- all reasons, in the order of their numbers
abbrev pub reasons : List Why
reasons =
    LongText ∷ BadToken ∷ Grammar ∷ Deep ∷ UnknownTable ∷ UnknownColumn ∷ Ambiguous ∷ WrongType ∷ OutOfDomain ∷ NotKeyJoin ∷ Repeated
    ∷ WrongCount ∷ Mixed ∷ TooWide ∷ TooManyTables ∷ NotAWrite ∷ NotAQuery ∷ DuplicateKey ∷ DomainCell ∷ LongCell ∷ KeyChange ∷ TableFull
    ∷ TooManyChanges ∷ DuplicateName ∷ TooManyColumns ∷ NoKey ∷ BadDomain ∷ BadHeader ∷ BadRecord ∷ BadNumber ∷ BadUtf8 ∷ BadNull ∷ NullCell ∷ []
