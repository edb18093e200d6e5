-- What a client keeps to by itself.
use Rattle.std.proofs.Common.{◌≡◌, ℕ, true, false, List, [], ◌∷◌, ◌++◌, refl, sym, ◌∙◌, subst, Some, None, length-append}
use Rattle.std.specs.Prelude.{Result}
use Rattle.sr_cell.specs.declared.fault.Fault.{Fault}
use Rattle.sr_cell.specs.declared.cause.Cause.TheVariants.{Lapsed}
use Rattle.sr_message.specs.declared.message.Message.{Message}
use Rattle.sr_model.specs.Queries.{Query}
use Rattle.sr_history.specs.declared.mark.Mark.{Mark}
use Rattle.sr_history.specs.Marks.{with_marks}
use Rattle.sr_history.specs.Classes.{Numbered}
use Rattle.sr_session.specs.Walks.{AreLaid, AskOut, Request, ResumeOut, WriteOut}
use Rattle.sr_session.specs.Clients.{Client, Counting, IsOut, answered, comes_to, lays_by}
use Rattle.sr_session.specs.Rules.{Basis, Before, CutStep, EvictStep, Outcome, QueryStep, ResumeStep, TakeStep, WriteStep, already_cut, already_up, answering_now, answering_then, answers, applies, as_it_is, asks_once_more, cuts, emptied, evict_busy, evicts, evicts_none, forgets, is_welcomed, lays, query_answered, query_asks, query_busy, query_down, query_refused, refused_write, resumes, with_answered, with_query, write_busy, write_down, write_sends, written}
use Rattle.sr_session.specs.Tidy.{IsTidy, IsTidyWith, RulesKeepTidy, by_cut, by_eviction, by_message, by_query, by_resume, by_write}
use Rattle.sr_session.proofs.TakeLemmas.{laid-append}
use Rattle.sr_session.proofs.MarkLemmas.{kept}
use Rattle.sr_session.proofs.DropLemmas.{all-dropped, asks-some}

module _ (b : Basis) where
  -- nothing is out, and nothing is laid by
  at-rest : (c new : Client) → IsTidy b.schema c → c.out ≡ None → new.out ≡ c.out → new.laid ≡ c.laid → IsTidy b.schema new
  at-rest c new h out same laid = subst (IsTidyWith b.schema new) (sym (same ∙ out)) (laid ∙ subst (IsTidyWith b.schema c) out h)

  laid-by-none : (c : Client) → IsTidy b.schema c → c.out ≡ None → c.laid ≡ []
  laid-by-none c h out = subst (IsTidyWith b.schema c) out h

  after-answer : (c new : Client) (queries : List Numbered) (from : Counting) (version : ℕ) (marks : List Mark) → new ≡ answered c queries from version marks → IsTidy b.schema new
  after-answer c new queries from version marks is = subst (IsTidy b.schema) (sym is) refl

  before-tidy : (q : Query) (c : Client) (drops : List Mark) (old : Client) → Before b q c drops old → (old.out ≡ c.out) × (old.laid ≡ c.laid)
  before-tidy q c drops old as_it_is = (refl, refl)
  before-tidy q c drops old (emptied ds first) = (refl, refl)

  query-tidy : (text : Result Query Fault) (c : Client) (o : Outcome) (new : Client) → IsTidy b.schema c → QueryStep b c text o new → IsTidy b.schema new
  query-tidy text c o new h (query_refused fault) = h
  query-tidy text c o new h (query_busy q request out) = h
  query-tidy text c o new h (query_answered q rows marks after out asks are step) =
      let k = kept b (answering_now c q) c marks after step in after-answer c after (with_query q true c) k.from c.version marks k.is
  query-tidy text c o new h (query_down q out down left) = h
  query-tidy text c o new h (query_asks q drops old ask others fresh out before up asks few mode) =
      let same = before-tidy q c drops old before in (
        (
          refl,
          record {
            asks = asks;
            some = λ none. absurd (cc);
            fresh_where = mode;
            earlier = old.queries;
            newest = refl;
            query_is = sym (length-append old.queries (record { query = q; answered = false } ∷ []));
          },
        ),
        subst AreLaid (sym (same.1 ∙ laid-by-none c h out)) tt,
      )

  out-still : (c : Client) (more : List Message) (request : Request) → IsOut b.schema c request → IsOut b.schema (record c { laid = more }) request
  out-still c more (AskOut number query meaning fresh parts) o = (o.0, record { asks = o.1.asks; some = o.1.some; fresh_where = o.1.fresh_where; earlier = o.1.earlier; newest = o.1.newest; query_is = o.1.query_is })
  out-still c more (WriteOut number) o = o
  out-still c more (ResumeOut number) o = o

  take-tidy : (m : Message) (c : Client) (o : Outcome) (new : Client) → IsTidy b.schema c → TakeStep b c m o new → IsTidy b.schema new
  take-tidy m c o new h (lays request x out laid own) =
      let is : IsTidyWith b.schema c (Some request) = subst (IsTidyWith b.schema c) out h in
      subst (IsTidyWith b.schema (lays_by c x)) (sym out) (out-still c (c.laid ++ x ∷ []) request is.0, laid-append c.laid (x ∷ []) is.1 (laid, tt))
  take-tidy m c o new h (applies w told drops out later met) = at-rest c (comes_to c w drops) h out refl refl
  take-tidy m c o new h (forgets w drops out later all) = at-rest c (comes_to c w drops) h out refl refl
  take-tidy m c o new h (answers number query q fresh parts w rows marks after out whole later are step) =
      let k = kept b (answering_then c query q parts w) c marks after step in after-answer c after (with_answered query q c.queries) k.from w marks k.is
  take-tidy m c o new h (asks_once_more number query q fresh parts w drops whole out again later all asks few) =
      let none = all-dropped b.schema c.marks c.queries Lapsed drops all in
      let is : IsTidyWith b.schema c (Some (AskOut number query q fresh parts)) = subst (IsTidyWith b.schema c) out h in (
        (
          refl,
          record {
            asks = asks;
            some = asks-some b.schema c.marks (with_marks c.marks drops) none q.parts parts whole is.0.1.asks asks is.0.1.some;
            fresh_where = (λ yes. none, λ none. refl);
            earlier = is.0.1.earlier;
            newest = is.0.1.newest;
            query_is = is.0.1.query_is;
          },
        ),
        tt,
      )
  take-tidy m c o new h (written number w drops out later d) = refl
  take-tidy m c o new h (refused_write number fault drops out later d) = refl
  take-tidy m c o new h (is_welcomed number w keeps drops out later d) = refl

  evict-tidy : (place : ℕ) (c : Client) (o : Outcome) (new : Client) → IsTidy b.schema c → EvictStep b place c o new → IsTidy b.schema new
  evict-tidy place c o new h (evict_busy request out) = h
  evict-tidy place c o new h (evicts_none classes out are few) = h
  evict-tidy place c o new h (evicts classes chosen d out are at drop) = at-rest c (record c { marks = with_marks c.marks (d ∷ []) }) h out refl refl

  write-tidy : (sql : List ℕ) (c : Client) (o : Outcome) (new : Client) → IsTidy b.schema c → WriteStep sql c o new → IsTidy b.schema new
  write-tidy sql c o new h (write_busy request out) = h
  write-tidy sql c o new h (write_down out down) = h
  write-tidy sql c o new h (write_sends out up) = (refl, subst AreLaid (sym (laid-by-none c h out)) tt)

  cut-tidy : (c : Client) (o : Outcome) (new : Client) → IsTidy b.schema c → CutStep c o new → IsTidy b.schema new
  cut-tidy c o new h (already_cut down) = h
  cut-tidy c o new h (cuts up) = refl

  resume-tidy : (c : Client) (o : Outcome) (new : Client) → IsTidy b.schema c → c.out ≡ None → ResumeStep b.schema c o new → IsTidy b.schema new
  resume-tidy c o new h out (already_up up) = h
  resume-tidy c o new h out (resumes m down is) = (refl, subst AreLaid (sym (laid-by-none c h out)) tt)

pub rules-keep-tidy : RulesKeepTidy
rules-keep-tidy b c new o h (by_query text p after step) = query-tidy b text c o new h step
rules-keep-tidy b c new o h (by_message m p after step) = take-tidy b m c o new h step
rules-keep-tidy b c new o h (by_eviction place p after step) = evict-tidy b place c o new h step
rules-keep-tidy b c new o h (by_write sql p after step) = write-tidy b sql c o new h step
rules-keep-tidy b c new o h (by_cut p after step) = cut-tidy b c o new h step
rules-keep-tidy b c new o h (by_resume p after out step) = resume-tidy b c o new h out step
