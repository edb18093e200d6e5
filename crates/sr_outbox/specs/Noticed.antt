-- What a subscription is told of a log's entries.
use Rattle.std.specs.Prelude.{List, map, filter, flat_map}
use Rattle.sr_message.specs.declared.message.Holding.{Holding}
use Rattle.sr_message.specs.declared.message.Message.{Message}
use Rattle.sr_message.specs.Tells.{tell_of}
use Rattle.sr_subs.specs.Subscription.{touches}
use Rattle.sr_log.specs.declared.entry.Entry.{Entry}
use Rattle.sr_session.specs.Sessions.{notice}

-- a notice of each entry of which something touches the subscription
abbrev pub noticed : List Holding → List Entry → List Message
noticed subscription entries = flat_map (λ entry. notice entry.version (map tell_of (filter (touches subscription) entry.changes))) entries
