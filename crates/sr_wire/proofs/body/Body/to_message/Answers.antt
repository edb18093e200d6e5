use Rattle.std.proofs.Common.{refl}
use Rattle.sr_wire.proofs.body.Body.to_message.Goals as goal

pub returns-in-Hello : goal.returns-in-Hello
returns-in-Hello c = rw c.in-Hello.is refl

pub returns-in_ok-to_holdings-in-Resume : goal.returns-in_ok-to_holdings-in-Resume
returns-in_ok-to_holdings-in-Resume c = rw (c.in-Resume.is, c.in_ok-to_holdings-in-Resume.ensures) refl

pub returns-in_ok-to_parts-in-Ask : goal.returns-in_ok-to_parts-in-Ask
returns-in_ok-to_parts-in-Ask c = rw (c.in-Ask.is, c.in_ok-to_parts-in-Ask.ensures) refl

pub returns-in_ok-of-in-Write : goal.returns-in_ok-of-in-Write
returns-in_ok-of-in-Write c = rw (c.in-Write.is, c.in_ok-of-in-Write.ensures) refl

pub returns-in-Welcome : goal.returns-in-Welcome
returns-in-Welcome c = rw c.in-Welcome.is refl

pub returns-in_ok-to_told-in-Notice : goal.returns-in_ok-to_told-in-Notice
returns-in_ok-to_told-in-Notice c = rw (c.in-Notice.is, c.in_ok-to_told-in-Notice.ensures) refl

pub returns-in_ok-to_rows-in-Rows : goal.returns-in_ok-to_rows-in-Rows
returns-in_ok-to_rows-in-Rows c = rw (c.in-Rows.is, c.in_ok-to_rows-in-Rows.ensures) refl

pub returns-in-Reply : goal.returns-in-Reply
returns-in-Reply c = rw c.in-Reply.is refl

pub returns-in-Written : goal.returns-in-Written
returns-in-Written c = rw c.in-Written.is refl

pub returns-in-Refused : goal.returns-in-Refused
returns-in-Refused c = rw c.in-Refused.is refl

pub returns-in-Lapse : goal.returns-in-Lapse
returns-in-Lapse c = rw c.in-Lapse.is refl
