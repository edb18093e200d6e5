-- The messages of one item more.
use Rattle.std.proofs.Common.{◌≡◌, List, [], ◌∷◌, ◌++◌, ◌∙◌, ap}
use Rattle.std.proofs.lemmas.List.{map-append}
use Rattle.sr_log.specs.Held.{Held}
use Rattle.sr_tables.specs.Stored.{Stored}
use Rattle.sr_outbox.specs.declared.item.Item.{Item}
use Rattle.sr_outbox.specs.Left.{message_of, messages}

pub messages-push : (tables : Stored) (log : Held) (before after : List Item) (item : Item) → after ≡ before ++ item ∷ []
    → messages tables log after ≡ messages tables log before ++ message_of tables log item ∷ []
messages-push tables log before after item is = ap (messages tables log) is ∙ map-append (message_of tables log) before (item ∷ [])
