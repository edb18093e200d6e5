use Rattle.std.proofs.Common.{◌∙◌, sym, rules}
use Rattle.sr_lines.specs.Script as script
use Rattle.sr_reader.proofs.OneWord.{mapped, says-exec, says-query, says-write, says-explain, says-push, says-toserver, says-toclient, says-settle, says-cut, says-resume, says-evict}
use Rattle.sr_reader.proofs.words.event_of.Goals as goal

pub returns-in-exec : goal.returns-in-exec
returns-in-exec c =
    mapped _ (λ sql. script.ExecSql sql.now) c.text.result c.map.result (λ x words said. search rules) c.map.ensures.cases
    ∙ (rw c.split.ensures.behind at (c.text.ensures script.ExecSql)) ∙ says-exec c.args.clients c.args.line.now (sym c.split.ensures.part ∙ c.in-exec.is)

pub returns-in-query : goal.returns-in-query
returns-in-query c =
    mapped _ (λ read. script.QuerySql read.0 read.1.now) c.client_text.result c.map-in-query.result (λ x words said. search rules) c.map-in-query.ensures.cases
    ∙ (rw c.split.ensures.behind at (c.client_text.ensures script.QuerySql)) ∙ says-query c.args.clients c.args.line.now (sym c.split.ensures.part ∙ c.in-query.is)

pub returns-in-write : goal.returns-in-write
returns-in-write c =
    mapped _ (λ read. script.WriteSql read.0 read.1.now) c.client_text-in-write.result c.map-in-write.result (λ x words said. search rules) c.map-in-write.ensures.cases
    ∙ (rw c.split.ensures.behind at (c.client_text-in-write.ensures script.WriteSql)) ∙ says-write c.args.clients c.args.line.now (sym c.split.ensures.part ∙ c.in-write.is)

pub returns-in-explain : goal.returns-in-explain
returns-in-explain c =
    mapped _ (λ read. script.ExplainSql read.0 read.1.now) c.client_text-in-explain.result c.map-in-explain.result (λ x words said. search rules) c.map-in-explain.ensures.cases
    ∙ (rw c.split.ensures.behind at (c.client_text-in-explain.ensures script.ExplainSql)) ∙ says-explain c.args.clients c.args.line.now (sym c.split.ensures.part ∙ c.in-explain.is)

pub returns-in-push : goal.returns-in-push
returns-in-push c =
    mapped _ script.PushTo c.last_client.result c.map-in-push.result (λ x words said. search rules) c.map-in-push.ensures.cases
    ∙ (rw c.split.ensures.behind at (c.last_client.ensures script.PushTo)) ∙ says-push c.args.clients c.args.line.now (sym c.split.ensures.part ∙ c.in-push.is)

pub returns-in-toserver : goal.returns-in-toserver
returns-in-toserver c =
    mapped _ script.ToServer c.last_client-in-toserver.result c.map-in-toserver.result (λ x words said. search rules) c.map-in-toserver.ensures.cases
    ∙ (rw c.split.ensures.behind at (c.last_client-in-toserver.ensures script.ToServer)) ∙ says-toserver c.args.clients c.args.line.now (sym c.split.ensures.part ∙ c.in-toserver.is)

pub returns-in-toclient : goal.returns-in-toclient
returns-in-toclient c =
    mapped _ script.ToClient c.last_client-in-toclient.result c.map-in-toclient.result (λ x words said. search rules) c.map-in-toclient.ensures.cases
    ∙ (rw c.split.ensures.behind at (c.last_client-in-toclient.ensures script.ToClient)) ∙ says-toclient c.args.clients c.args.line.now (sym c.split.ensures.part ∙ c.in-toclient.is)

pub returns-in-settle : goal.returns-in-settle
returns-in-settle c =
    mapped _ script.Settle c.last_client-in-settle.result c.map-in-settle.result (λ x words said. search rules) c.map-in-settle.ensures.cases
    ∙ (rw c.split.ensures.behind at (c.last_client-in-settle.ensures script.Settle)) ∙ says-settle c.args.clients c.args.line.now (sym c.split.ensures.part ∙ c.in-settle.is)

pub returns-in-cut : goal.returns-in-cut
returns-in-cut c =
    mapped _ script.Cut c.last_client-in-cut.result c.map-in-cut.result (λ x words said. search rules) c.map-in-cut.ensures.cases
    ∙ (rw c.split.ensures.behind at (c.last_client-in-cut.ensures script.Cut)) ∙ says-cut c.args.clients c.args.line.now (sym c.split.ensures.part ∙ c.in-cut.is)

pub returns-in-resume : goal.returns-in-resume
returns-in-resume c =
    mapped _ script.Resume c.last_client-in-resume.result c.map-in-resume.result (λ x words said. search rules) c.map-in-resume.ensures.cases
    ∙ (rw c.split.ensures.behind at (c.last_client-in-resume.ensures script.Resume)) ∙ says-resume c.args.clients c.args.line.now (sym c.split.ensures.part ∙ c.in-resume.is)

pub returns-in-evict : goal.returns-in-evict
returns-in-evict c =
    mapped _ (λ read. script.Evict read.0 read.1) c.client_place.result c.map-in-evict.result (λ x words said. search rules) c.map-in-evict.ensures.cases
    ∙ (rw c.split.ensures.behind at (c.client_place.ensures script.Evict)) ∙ says-evict c.args.clients c.args.line.now (sym c.split.ensures.part ∙ c.in-evict.is)
