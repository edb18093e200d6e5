-- What a write does.
use Rattle.std.proofs.Common.{◌≡◌, ℕ, ◌+◌, true, false, List, [], refl, sym, ◌∙◌, ap, subst, Some, None, arith}
use Rattle.sr_message.specs.declared.message.Message.{Message}
use Rattle.sr_message.specs.declared.message.Message.TheVariants.{Write}
use Rattle.sr_model.specs.Queries.{Query}
use Rattle.sr_session.specs.Rules.{number_of, write_busy, write_down, write_sends}
use Rattle.sr_session.specs.Rules as rules
use Rattle.sr_session.specs.Walks.{AreLaid, WriteOut}
use Rattle.sr_client.specs.declared.client.Client.{Client}
use Rattle.sr_client.specs.declared.client.Request as code
use Rattle.sr_client.specs.declared.client.Request.TheVariants as request
use Rattle.sr_client.specs.declared.steps.WriteStep.TheVariants.{Sent, Busy, Down}
use Rattle.sr_client.specs.Stands.{Hidden, Facts, Stands, past_of, out_of, request_of, AreFit}
use Rattle.sr_client.specs.Steps.{Writes}
use Rattle.sr_client.proofs.MoveLemmas.{writes-by}
use Rattle.sr_client.proofs.OverLemmas.{stands-over}
use Rattle.sr_client.proofs.QueryLemmas.{none-laid}

pub write-busy : (c : Client) (sql : List ℕ) (number : ℕ) (request : code.Request) → Stands c → c.out ≡ Some request → ((meaning : Query) → number ≡ number_of (request_of meaning request))
    → Writes c sql c (Busy number)
write-busy c sql number request stands out number_is = writes-by c c sql (Busy number) (λ h f. record {
  outcome = rules.Busy number;
  next = past_of c h;
  is = refl;
  link = refl;
  draws = omega arith;
  stands = (h, f, refl);
  over = λ db here it. (
    subst (λ k. rules.WriteStep sql (past_of c h) (rules.Busy k) (past_of c h)) (sym (number_is h.meaning)) (write_busy (request_of h.meaning request) (ap (out_of h.meaning) out)),
    stands-over c h db f here,
  );
}) (λ h f. subst (λ k. rules.WriteStep sql (past_of c h) (rules.Busy k) (past_of c h)) (sym (number_is h.meaning)) (write_busy (request_of h.meaning request) (ap (out_of h.meaning) out))) stands

pub write-over-cut : (c : Client) (sql : List ℕ) → Stands c → c.out ≡ None → c.cut ≡ true → Writes c sql c (Down c.cuts)
write-over-cut c sql stands out down = writes-by c c sql (Down c.cuts) (λ h f. record {
  outcome = rules.Down c.cuts;
  next = past_of c h;
  is = refl;
  link = refl;
  draws = omega arith;
  stands = (h, f, refl);
  over = λ db here it. (write_down (ap (out_of h.meaning) out) down, stands-over c h db f here);
}) (λ h f. write_down (ap (out_of h.meaning) out) down) stands

-- the client once a write is out
abbrev pub writing : Client → Client
writing c = record c { next_request = c.next_request + 1; out = Some (request.Write c.next_request) }

writing-facts : (c : Client) (h : Hidden) → Facts c h → c.out ≡ None → c.cut ≡ false → Facts (writing c) h
writing-facts c h f out up =
    let laid = none-laid c h f out in
    record {
      tables = f.tables;
      tidy = (refl, subst AreLaid (sym laid) tt);
      down = λ down. absurd (let wrong : true ≡ false = sym down ∙ up in cc);
      meant = tt;
      fit = subst (AreFit c.schema (Some (WriteOut c.next_request)) c.version []) (sym laid) tt;
      store = f.store;
      settled = f.settled;
      keeps = f.keeps;
      queries = f.queries;
      last = f.last;
      rows = f.rows;
      few = f.few;
      from = f.from;
      short = f.short;
      ends = f.ends;
    }

pub writing-stands : (c : Client) → Stands c → c.out ≡ None → c.cut ≡ false → Stands (writing c)
writing-stands c stands out up = (stands.0, writing-facts c stands.0 stands.1 out up)

pub write-sent : (c : Client) (sql : List ℕ) (message : Message) → Stands c → c.out ≡ None → c.cut ≡ false → message ≡ Write c.next_request sql → Writes c sql (writing c) (Sent c.next_request message)
write-sent c sql message stands out up told = writes-by c (writing c) sql (Sent c.next_request message) (λ h f. record {
  outcome = rules.WriteSent c.next_request sql;
  next = past_of (writing c) h;
  is = (told, refl);
  link = (up, up, λ none. absurd (let wrong : Some (WriteOut c.next_request) ≡ None = none in cc));
  draws = omega arith;
  stands = (h, writing-facts c h f out up, refl);
  over = λ db here it. (
    write_sends (ap (out_of h.meaning) out) up,
    stands-over (writing c) h db (writing-facts c h f out up) (record { sound = here.sound; within = here.within; are_true = here.are_true }),
  );
}) (λ h f. write_sends (ap (out_of h.meaning) out) up) stands
