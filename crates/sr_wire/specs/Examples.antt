-- Frames, worked out by hand, and one with a byte left over.
use Rattle.std.specs.Prelude.{pos, ℕ, List, [], ◌∷◌, ◌++◌, ◌≡◌, Some, true, false}
use Rattle.sr_cell.specs.declared.cell.Cell.TheVariants.{Num, Null as NullCell}
use Rattle.sr_box.specs.declared.span.Span.TheVariants.{Full, Nums, Null}
use Rattle.sr_message.specs.declared.message.Message.{Message}
use Rattle.sr_message.specs.declared.message.Message.TheVariants.{Hello, Resume, Ask, Notice, Reply}
use Rattle.sr_wire.specs.declared.wire_fault.WireFault.TheVariants.{Field}
use Rattle.sr_wire.specs.Spelling.{spelling}
use Rattle.sr_wire.specs.Reading.{decoded, Whole, Faulty}

-- a client without anything begins, over wire 1
abbrev pub hello : Message
hello = Hello 1 1 0

abbrev pub hello_frame : List ℕ
hello_frame = 0 ∷ 0 ∷ 0 ∷ 0x0b ∷ 1 ∷ 1 ∷ 1 ∷ 0 ∷ 0 ∷ 0 ∷ 0 ∷ 0 ∷ 0 ∷ 0 ∷ 0 ∷ []

-- a client begins again that holds the two columns of a table of two numbers, over wire 2
abbrev pub resume : Message
resume = Resume 2 1 3 5 ((record { table = 0; attrs = 3; rects = (Full ∷ Full ∷ []) ∷ [] }) ∷ [])

abbrev pub resume_frame : List ℕ
resume_frame =
    0 ∷ 0 ∷ 0 ∷ 0x21 ∷ 2 ∷ 2 ∷ 1 ∷ 0 ∷ 0 ∷ 0 ∷ 0 ∷ 0 ∷ 0 ∷ 0 ∷ 3 ∷ 0 ∷ 0 ∷ 0 ∷ 0 ∷ 0 ∷ 0 ∷ 0 ∷ 5 ∷ 0 ∷ 0 ∷ 0 ∷ 1 ∷ 0 ∷ 0 ∷ 3 ∷ 0 ∷ 0 ∷ 0 ∷ 1 ∷ 2 ∷ 0 ∷ 0
    ∷ []

-- over wire 1 it holds all columns, and does not name them
abbrev pub whole_resume : Message
whole_resume = Resume 1 1 3 5 ((record { table = 0; attrs = 4095; rects = (Full ∷ Full ∷ []) ∷ [] }) ∷ [])

abbrev pub whole_resume_frame : List ℕ
whole_resume_frame =
    0 ∷ 0 ∷ 0 ∷ 0x1f ∷ 2 ∷ 1 ∷ 1 ∷ 0 ∷ 0 ∷ 0 ∷ 0 ∷ 0 ∷ 0 ∷ 0 ∷ 3 ∷ 0 ∷ 0 ∷ 0 ∷ 0 ∷ 0 ∷ 0 ∷ 0 ∷ 5 ∷ 0 ∷ 0 ∷ 0 ∷ 1 ∷ 0 ∷ 0 ∷ 0 ∷ 0 ∷ 1 ∷ 2 ∷ 0 ∷ 0 ∷ []

-- there is no wire 3
abbrev pub later_hello_frame : List ℕ
later_hello_frame = 0 ∷ 0 ∷ 0 ∷ 0x0b ∷ 1 ∷ 3 ∷ 1 ∷ 0 ∷ 0 ∷ 0 ∷ 0 ∷ 0 ∷ 0 ∷ 0 ∷ 0 ∷ []

abbrev pub reply : Message
reply = Reply 1 2

abbrev pub reply_frame : List ℕ
reply_frame =
    0 ∷ 0 ∷ 0 ∷ 0x11 ∷ 0x14 ∷ 0 ∷ 0 ∷ 0 ∷ 0 ∷ 0 ∷ 0 ∷ 0 ∷ 1 ∷ 0 ∷ 0 ∷ 0 ∷ 0 ∷ 0 ∷ 0 ∷ 0 ∷ 2 ∷ []

-- the first two columns of the rows from 30 to 40
abbrev pub ask : Message
ask = Ask 1 true ((record { table = 0; attrs = 3; rects = (Full ∷ Nums (pos 30) (pos 40) ∷ Full ∷ Full ∷ []) ∷ [] }) ∷ [])

abbrev pub ask_frame : List ℕ
ask_frame =
    0 ∷ 0 ∷ 0 ∷ 0x27 ∷ 3 ∷ 0 ∷ 0 ∷ 0 ∷ 0 ∷ 0 ∷ 0 ∷ 0 ∷ 1 ∷ 1 ∷ 1 ∷ 0 ∷ 0 ∷ 3 ∷ 0 ∷ 0 ∷ 0 ∷ 1 ∷ 4 ∷ 0 ∷ 1 ∷ 0 ∷ 0 ∷ 0 ∷ 0 ∷ 0 ∷ 0 ∷ 0 ∷ 0x1e
    ∷ 0 ∷ 0 ∷ 0 ∷ 0 ∷ 0 ∷ 0 ∷ 0 ∷ 0x28 ∷ 0 ∷ 0 ∷ []

-- the reply with a byte left over
abbrev pub long_reply_frame : List ℕ
long_reply_frame =
    0 ∷ 0 ∷ 0 ∷ 0x12 ∷ 0x14 ∷ 0 ∷ 0 ∷ 0 ∷ 0 ∷ 0 ∷ 0 ∷ 0 ∷ 1 ∷ 0 ∷ 0 ∷ 0 ∷ 0 ∷ 0 ∷ 0 ∷ 0 ∷ 2 ∷ 7 ∷ []

-- the points of a table of two numbers whose second is Null
abbrev pub null_ask : Message
null_ask = Ask 3 false ((record { table = 0; attrs = 3; rects = (Full ∷ Null ∷ []) ∷ [] }) ∷ [])

abbrev pub null_ask_frame : List ℕ
null_ask_frame = 0 ∷ 0 ∷ 0 ∷ 0x15 ∷ 3 ∷ 0 ∷ 0 ∷ 0 ∷ 0 ∷ 0 ∷ 0 ∷ 0 ∷ 3 ∷ 0 ∷ 1 ∷ 0 ∷ 0 ∷ 3 ∷ 0 ∷ 0 ∷ 0 ∷ 1 ∷ 2 ∷ 0 ∷ 4 ∷ []

-- a row of such a table, whose second cell is Null
abbrev pub null_notice : Message
null_notice = Notice 2 ((record { table = 0; key = Num (pos 2); after = Some (Num (pos 2) ∷ NullCell ∷ []) }) ∷ [])

abbrev pub null_notice_frame : List ℕ
null_notice_frame =
    0 ∷ 0 ∷ 0 ∷ 0x23 ∷ 0x12 ∷ 0 ∷ 0 ∷ 0 ∷ 0 ∷ 0 ∷ 0 ∷ 0 ∷ 2 ∷ 0 ∷ 0 ∷ 0 ∷ 1 ∷ 0 ∷ 0 ∷ 0 ∷ 0 ∷ 0 ∷ 0 ∷ 0 ∷ 0 ∷ 0 ∷ 2 ∷ 1 ∷ 2 ∷ 0 ∷ 0 ∷ 0 ∷ 0 ∷ 0
    ∷ 0 ∷ 0 ∷ 0 ∷ 2 ∷ 2 ∷ []

-- no key is Null
abbrev pub null_key_frame : List ℕ
null_key_frame = 0 ∷ 0 ∷ 0 ∷ 0x10 ∷ 0x12 ∷ 0 ∷ 0 ∷ 0 ∷ 0 ∷ 0 ∷ 0 ∷ 0 ∷ 2 ∷ 0 ∷ 0 ∷ 0 ∷ 1 ∷ 0 ∷ 2 ∷ 0 ∷ []

pub record AreWorkedFrames : Type 0 where
  pub hello_is : spelling hello ≡ hello_frame
  pub hello_back : decoded hello_frame ≡ Whole hello 15
  pub resume_is : spelling resume ≡ resume_frame
  pub resume_back : decoded resume_frame ≡ Whole resume 37
  pub whole_resume_is : spelling whole_resume ≡ whole_resume_frame
  pub whole_resume_back : decoded whole_resume_frame ≡ Whole whole_resume 35
  pub no_wire : decoded later_hello_frame ≡ Faulty (Field 5)
  pub reply_is : spelling reply ≡ reply_frame
  pub reply_back : decoded reply_frame ≡ Whole reply 21
  pub ask_is : spelling ask ≡ ask_frame
  pub ask_back : decoded (ask_frame ++ 0 ∷ []) ≡ Whole ask 43
  pub null_ask_is : spelling null_ask ≡ null_ask_frame
  pub null_ask_back : decoded null_ask_frame ≡ Whole null_ask 25
  pub null_notice_is : spelling null_notice ≡ null_notice_frame
  pub null_notice_back : decoded null_notice_frame ≡ Whole null_notice 39
  pub null_key : decoded null_key_frame ≡ Faulty (Field 18)
  pub left_over : decoded long_reply_frame ≡ Faulty (Field 21)
