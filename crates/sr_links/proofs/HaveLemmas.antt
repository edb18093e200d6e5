-- Over an honest link a client has the rows of its version behind each step.
use Rattle.std.proofs.Common.{◌≡◌, ◌≤◌, true, List, [], ◌∷◌, ◌++◌, sym, subst, arith}
use Rattle.std.specs.List.{list_all}
use Rattle.sr_policy.specs.declared.policy.Limits.{Limits}
use Rattle.sr_query.specs.Bound.{is_table}
use Rattle.sr_session.specs.Clients.{Client}
use Rattle.sr_session.specs.Laws.{IsSound}
use Rattle.sr_session.specs.Sessions.{Database, newest, tables_of}
use Rattle.sr_links.specs.Answers.{HaveRows, ClientsHaveTheRows, ServedClientsHaveTheRows}
use Rattle.sr_links.specs.Honest.{Server, Input, Rests, Talk, AreTalks, server_at_last, steps_in, steps_of}
use Rattle.sr_links.specs.Steps.{Standing, Step, AreFair, past_after, code_after}
use Rattle.sr_links.proofs.DatabaseLemmas.{Grows, last-more}
use Rattle.sr_links.proofs.MendLemmas.{runs, closed-runs, nearly-ruled}
use Rattle.sr_links.proofs.TalkLemmas.{AreLawful}

module _ {C : Type 0} (IsOf : Standing C) (limits : Limits) where
  -- the rows of a version are the same on fewer and on more versions
  rows-on : (few many : Database) (code : C) (c : Client) → Grows few many → c.version ≤ newest few → IsOf few.schema code c (tables_of few c.version) → IsOf many.schema code c (tables_of many c.version)
  rows-on few many code c grows within is =
      subst (λ schema. IsOf schema code c (tables_of many c.version)) (sym grows.schema) (subst (IsOf few.schema code c) (sym (grows.same c.version within)) is)

  rows-back : (few many : Database) (code : C) (c : Client) → Grows few many → c.version ≤ newest few → IsOf many.schema code c (tables_of many c.version) → IsOf few.schema code c (tables_of few c.version)
  rows-back few many code c grows within is =
      subst (λ schema. IsOf schema code c (tables_of few c.version)) grows.schema (subst (IsOf many.schema code c) (grows.same c.version within) is)

  -- steps that are fair and lawful leave a client that has the rows
  have-rows : (all : Database) (code : C) (c : Client) (steps : List (Step C)) → IsOf all.schema code c (tables_of all c.version) → AreFair IsOf limits code c steps → AreLawful limits all c steps
      → HaveRows IsOf all steps
  have-rows all code c [] is fair lawful = tt
  have-rows all code c (step ∷ steps) is (fair, more) (one, others) =
      let after = fair one.db one.sound one.before (rows-back one.db all code c one.grows one.before is) one.comes in
      let next = rows-on one.db all step.code step.past one.grows one.within after.1 in
      let up = one.grows.more in
      let within = one.within in
      ((omega (arith, up, within), next), have-rows all step.code step.past steps next more others)

  fair-append : (code : C) (c : Client) (steps more : List (Step C)) → AreFair IsOf limits code c steps → AreFair IsOf limits (code_after code steps) (past_after c steps) more
      → AreFair IsOf limits code c (steps ++ more)
  fair-append code c [] more fair then_more = then_more
  fair-append code c (step ∷ steps) more (one, others) then_more = (one, fair-append step.code step.past steps more others then_more)

  talks-fair : (code : C) (c : Client) (talks : List (Talk C)) → AreTalks IsOf limits code c talks → AreFair IsOf limits code c (steps_of talks)
  talks-fair code c [] are = tt
  talks-fair code c (talk ∷ talks) (is, ends, others) =
      fair-append code c (steps_in talk) (steps_of talks) is.fair (talks-fair (code_after code (steps_in talk)) (past_after c (steps_in talk)) talks others)

module _ {C : Type 0} (IsOf : Standing C) (limits : Limits) (s : Server) (code : C) (c : Client) (talks : List (Talk C)) (pieces : List (List Input)) (sound : IsSound s.database) (rest : Rests IsOf s.database code c)
    (are : AreTalks IsOf limits code c talks) where
  grows : Grows s.database (server_at_last s pieces).database
  grows = (last-more s pieces sound.some).grows

  tables-at-last : list_all is_table s.database.schema ≡ true → list_all is_table (server_at_last s pieces).database.schema ≡ true
  tables-at-last tables = subst (λ schema. list_all is_table schema ≡ true) (sym grows.schema) tables

  rows-at-last : AreLawful limits (server_at_last s pieces).database c (steps_of talks) → HaveRows IsOf (server_at_last s pieces).database (steps_of talks)
  rows-at-last lawful =
      have-rows IsOf limits (server_at_last s pieces).database code c (steps_of talks) (rows-on IsOf limits s.database (server_at_last s pieces).database code c grows rest.version rest.is)
      (talks-fair IsOf limits code c talks are) lawful

pub clients-have-the-rows : {C : Type 0} (IsOf : Standing C) → ClientsHaveTheRows IsOf
clients-have-the-rows {C} IsOf limits s code c talks pieces keys first_sound tables sound rest are ruled honest =
    rows-at-last IsOf limits s code c talks pieces first_sound rest are
    (runs IsOf keys limits talks pieces s code c first_sound.some sound (tables-at-last IsOf limits s code c talks pieces first_sound rest are tables) rest are (nearly-ruled c (steps_of talks) ruled) honest).lawful

pub served-clients-have-the-rows : {C : Type 0} (IsOf : Standing C) → ServedClientsHaveTheRows IsOf
served-clients-have-the-rows {C} IsOf limits s code c talks pieces keys closed behind first_sound tables sound rest are honest =
    rows-at-last IsOf limits s code c talks pieces first_sound rest are
    (closed-runs IsOf keys limits talks pieces s code c closed behind first_sound.some sound (tables-at-last IsOf limits s code c talks pieces first_sound rest are tables) rest are honest)
