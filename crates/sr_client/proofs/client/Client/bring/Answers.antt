use Rattle.std.proofs.Common.{rules, ◌≡◌, ◌∙◌, true, length, List, map, drop, sym, ap, subst}
use Rattle.std.specs.Prelude.{nat_lt}
use Rattle.std.specs.List.{list_all, All}
use Rattle.std.proofs.lemmas.List.{take_at}
use Rattle.sr_message.specs.declared.message.AskPart.{AskPart}
use Rattle.sr_store.specs.declared.store.Arrival.{Arrival}
use Rattle.sr_client.specs.Arriving.{unfilled, with_messages}
use Rattle.sr_client.specs.Laying.{TellsRows}
use Rattle.sr_client.proofs.ArriveLemmas.{arrivals_are, messages-length}
use Rattle.sr_client.proofs.AskedLemmas.{asked-tables}
use Rattle.sr_client.proofs.client.Client.bring.Goals as goal

pub arrivals_of-requires : goal.arrivals_of-requires
arrivals_of-requires c = record {
  tables =
      let old = c.args.self.now in
      subst (λ ps. list_all (λ (ask : AskPart). nat_lt ask.table (length old.schema)) ps ≡ true) (sym c.as_slice.ensures) (asked-tables old c.args.out.now c.requires.stands.0 c.requires.stands.1);
}

pub apply_laid-requires : goal.apply_laid-requires
apply_laid-requires c =
    let old = c.args.self.now in
    (old.schema, c.requires.stands.1.store, subst (All (TellsRows old.schema)) (sym c.replace-laid.ensures.value) c.requires.tells)

pub returns-clause-arrivals : goal.returns-clause-arrivals
returns-clause-arrivals c =
    let old = c.args.self.now in
    let out = c.args.out.now in
    let items : List Arrival = c.in_ok-arrivals.arrivals.items in
    let come : List Arrival = c.apply_laid.new.arrivals in
    let value : c.as_mut_slice.result.now ≡ items = search rules in
    let many : length c.as_mut_slice.result.now ≡ c.in_ok-arrivals.arrivals.len = search rules in
    let begun : items ≡ map (unfilled old.schema) out.parts = c.in_ok-arrivals.ensures ∙ ap (map (unfilled old.schema)) c.as_slice.ensures in
    let ended = c.in_ok-apply_laid.ensures.arrivals in
    let full : length come ≡ c.in_ok-arrivals.arrivals.len = ap length ended ∙ (messages-length c.replace-laid.result c.as_mut_slice.result.now ∙ many) in
    let all : come ≡ with_messages old.laid (map (unfilled old.schema) out.parts) =
    ended ∙ (ap (λ ms. with_messages ms c.as_mut_slice.result.now) c.replace-laid.ensures.value ∙ ap (with_messages old.laid) (value ∙ begun)) in
    c.from_vec.ensures ∙ (take_at come (drop (length come) items) c.in_ok-arrivals.arrivals.len full ∙ (all ∙ arrivals_are old.schema out.parts old.laid))
