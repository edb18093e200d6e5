-- What a cut does.
use Rattle.std.proofs.Common.{◌≡◌, ◌+◌, true, false, [], refl, None, arith}
use Rattle.sr_session.specs.Rules.{CutDone, AlreadyCut, cuts, already_cut}
use Rattle.sr_client.specs.declared.client.Client.{Client}
use Rattle.sr_client.specs.declared.steps.CutStep.TheVariants.{Cut, Already}
use Rattle.sr_client.specs.declared.steps.Ended.{Ended}
use Rattle.sr_client.specs.Stands.{Hidden, Facts, Stands, past_of}
use Rattle.sr_client.specs.Steps.{Cuts, ended_of}
use Rattle.sr_client.proofs.MoveLemmas.{cuts-by}
use Rattle.sr_client.proofs.OverLemmas.{stands-over}

pub cut-already : (c : Client) → Stands c → c.cut ≡ true → Cuts c c (Already c.cuts)
cut-already c stands down = cuts-by c c (Already c.cuts) (λ h f. record {
  outcome = AlreadyCut c.cuts;
  next = past_of c h;
  is = refl;
  link = down;
  draws = omega arith;
  stands = (h, f, refl);
  over = λ db here it. (already_cut down, stands-over c h db f here);
}) (λ h f. already_cut down) stands

-- the client once its link is cut
abbrev pub cut_off : Client → Client
cut_off c = record c { out = None; laid = []; cut = true; cuts = c.cuts + 1 }

cut-facts : (c : Client) (h : Hidden) → Facts c h → Facts (cut_off c) h
cut-facts c h f = record {
  tables = f.tables;
  tidy = refl;
  down = λ down. refl;
  meant = tt;
  fit = tt;
  store = f.store;
  settled = f.settled;
  keeps = f.keeps;
  queries = f.queries;
  last = f.last;
  rows = f.rows;
  few = f.few;
  from = f.from;
  short = f.short;
  ends = f.ends;
}

pub cut-now : (c : Client) (ended : Ended) → Stands c → c.cut ≡ false → ended ≡ ended_of c.out → Cuts c (cut_off c) (Cut (c.cuts + 1) ended)
cut-now c ended stands up is = cuts-by c (cut_off c) (Cut (c.cuts + 1) ended) (λ h f. record {
  outcome = CutDone (c.cuts + 1) (past_of c h).out;
  next = past_of (cut_off c) h;
  is = (is, refl);
  link = refl;
  draws = omega arith;
  stands = (h, cut-facts c h f, refl);
  over = λ db here it. (cuts up, stands-over (cut_off c) h db (cut-facts c h f) (record { sound = here.sound; within = here.within; are_true = here.are_true }));
}) (λ h f. cuts up) stands
