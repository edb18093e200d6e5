-- Calls and steps, one more.
use Rattle.std.proofs.Common.{◌≡◌, ℕ, ◌+◌, ◌≤◌, Bool, true, false, List, [], ◌∷◌, ◌++◌, arith, append_assoc, append-nil, refl, sym, ◌∙◌, ap, subst, Option, Some, None, option_to_list}
use Rattle.std.specs.Prelude.{◌&&◌, ◌||◌, IfSome}
use Rattle.std.specs.List.{list_any}
use Rattle.std.proofs.lemmas.List.Elements.{All-append, All-cons, All-nil}
use Rattle.sr_cell.specs.declared.table.Table.{Table}
use Rattle.sr_io.specs.Told.{AreAt, Connection}
use Rattle.sr_policy.specs.declared.policy.Limits.{Limits}
use Rattle.sr_session.specs.Clients.{Client}
use Rattle.sr_session.specs.Rules.{sent_of}
use Rattle.sr_links.specs.Brought.{AreLawful, Holding}
use Rattle.sr_links.specs.Steps.{Step, Standing, AreFair, OnOne, StaysOn, code_after, given_of, past_after, requests_of, taken_by}
use Rattle.sr_dial.specs.Calls.{Call, Done, Made, Explained, Said, AreCalls, all_done, calls_told, count_faults, done_in, fails, has_failed, is_fault, number_of, one_if, steps_in}
use Rattle.sr_dial.specs.Courses.{IsCall, line_after}
use Rattle.sr_dial.specs.Known.{AreFairlyExplained}
use Rattle.sr_dial.specs.Runs.{AreFew, AreInPlace, left_by, more_taken, none_taken, taken_after}
use Rattle.sr_dial.specs.declared.waiting.Count.{Count}

module _ {C : Type 0} where
  -- ---- steps

  pub past-append : (c : Client) (xs ys : List (Step C)) → past_after c (xs ++ ys) ≡ past_after (past_after c xs) ys
  past-append c [] ys = refl
  past-append c (x ∷ xs) ys = past-append x.past xs ys

  pub code-append : (code : C) (xs ys : List (Step C)) → code_after code (xs ++ ys) ≡ code_after (code_after code xs) ys
  code-append code [] ys = refl
  code-append code (x ∷ xs) ys = code-append x.code xs ys

  pub fair-append : (IsOf : Standing C) (limits : Limits) (code : C) (c : Client) (xs ys : List (Step C)) → AreFair IsOf limits code c xs → AreFair IsOf limits (code_after code xs) (past_after c xs) ys
      → AreFair IsOf limits code c (xs ++ ys)
  fair-append IsOf limits code c [] ys one more = more
  fair-append IsOf limits code c (x ∷ xs) ys (here, one) more = (here, fair-append IsOf limits x.code x.past xs ys one more)

  pub lawful-append : (Has : Holding C) (limits : Limits) (schema : List Table) (code : C) (c : Client) (xs ys : List (Step C)) → AreLawful Has limits schema code c xs
      → AreLawful Has limits schema (code_after code xs) (past_after c xs) ys → AreLawful Has limits schema code c (xs ++ ys)
  lawful-append Has limits schema code c [] ys one more = more
  lawful-append Has limits schema code c (x ∷ xs) ys (here, one) more = (here, lawful-append Has limits schema x.code x.past xs ys one more)

  pub on-append : (c : Client) (xs : List (Step C)) (y : Step C) → OnOne c xs → StaysOn (past_after c xs) y.deed → OnOne c (xs ++ y ∷ [])
  on-append c [] y one more = (more, tt)
  on-append c (x ∷ xs) y (here, one) more = (here, on-append x.past xs y one more)

  pub given-append : (xs ys : List (Step C)) → given_of (xs ++ ys) ≡ given_of xs ++ given_of ys
  given-append [] ys = refl
  given-append (x ∷ xs) ys = ap (λ ms. taken_by x.deed ++ ms) (given-append xs ys) ∙ sym (append_assoc (taken_by x.deed) (given_of xs) (given_of ys))

  pub requests-append : (xs ys : List (Step C)) → requests_of (xs ++ ys) ≡ requests_of xs ++ requests_of ys
  requests-append [] ys = refl
  requests-append (x ∷ xs) ys = ap (λ ms. sent_of x.outcome ++ ms) (requests-append xs ys) ∙ sym (append_assoc (sent_of x.outcome) (requests_of xs) (requests_of ys))

  pub steps-append : (xs ys : List (Done C)) → steps_in (xs ++ ys) ≡ steps_in xs ++ steps_in ys
  steps-append [] ys = refl
  steps-append (Made number cause step ∷ xs) ys = ap (λ more. step ∷ more) (steps-append xs ys)
  steps-append (Explained number text result ∷ xs) ys = steps-append xs ys
  steps-append (Said number text ∷ xs) ys = steps-append xs ys

  pub line-append : (line : ℕ) (xs ys : List (Done C)) → line_after line (xs ++ ys) ≡ line_after (line_after line xs) ys
  line-append line [] ys = refl
  line-append line (x ∷ xs) ys = line-append (number_of x) xs ys

  pub taken-append : (n : Count) (xs ys : List (Done C)) → taken_after n (xs ++ ys) ≡ taken_after (taken_after n xs) ys
  taken-append n [] ys = refl
  taken-append n (Made number cause step ∷ xs) ys = taken-append (more_taken cause (sent_of step.outcome) n) xs ys
  taken-append n (Explained number text result ∷ xs) ys = taken-append none_taken xs ys
  taken-append n (Said number text ∷ xs) ys = taken-append none_taken xs ys

  pub few-append : (n : Count) (xs : List (Done C)) (d : Done C) → AreFew n xs → (taken_after (taken_after n xs) (d ∷ [])).taken ≤ 1000000 → AreFew n (xs ++ d ∷ [])
  few-append n [] d few most = (most, tt)
  few-append n (Made number cause step ∷ xs) d (first, few) most = (first, few-append (more_taken cause (sent_of step.outcome) n) xs d few most)
  few-append n (Explained number text result ∷ xs) d (first, few) most = (first, few-append none_taken xs d few most)
  few-append n (Said number text ∷ xs) d (first, few) most = (first, few-append none_taken xs d few most)

  pub place-append : (schema : List Table) (line : ℕ) (c : Client) (xs ys : List (Done C)) → AreInPlace schema line c xs → AreInPlace schema (line_after line xs) (past_after c (steps_in xs)) ys
      → AreInPlace schema line c (xs ++ ys)
  place-append schema line c [] ys one more = more
  place-append schema line c (Made number cause step ∷ xs) ys (here, one) more = (here, place-append schema number step.past xs ys one more)
  place-append schema line c (Explained number text result ∷ xs) ys (here, one) more = (here, place-append schema number c xs ys one more)
  place-append schema line c (Said number text ∷ xs) ys (here, one) more = (here, place-append schema number c xs ys one more)

  pub explained-append : (IsOf : Standing C) (limits : Limits) (code : C) (c : Client) (xs ys : List (Done C)) → AreFairlyExplained IsOf limits code c xs
      → AreFairlyExplained IsOf limits (code_after code (steps_in xs)) (past_after c (steps_in xs)) ys → AreFairlyExplained IsOf limits code c (xs ++ ys)
  explained-append IsOf limits code c [] ys one more = more
  explained-append IsOf limits code c (Made number cause step ∷ xs) ys one more = explained-append IsOf limits step.code step.past xs ys one more
  explained-append IsOf limits code c (Explained number text result ∷ xs) ys (here, one) more = (here, explained-append IsOf limits code c xs ys one more)
  explained-append IsOf limits code c (Said number text ∷ xs) ys one more = explained-append IsOf limits code c xs ys one more

  -- ---- calls

  pub all-one : (cs : List (Call C)) (x : Call C) → all_done (cs ++ x ∷ []) ≡ all_done cs ++ done_in x
  all-one [] x = append-nil (done_in x)
  all-one (c ∷ cs) x = ap (λ more. done_in c ++ more) (all-one cs x) ∙ sym (append_assoc (done_in c) (all_done cs) (done_in x))

  pub told-one : (cs : List (Call C)) (x : Call C) → calls_told (cs ++ x ∷ []) ≡ calls_told cs ++ option_to_list x.told
  told-one [] x = append-nil (option_to_list x.told)
  told-one (c ∷ cs) x = ap (λ more. option_to_list c.told ++ more) (told-one cs x) ∙ sym (append_assoc (option_to_list c.told) (calls_told cs) (option_to_list x.told))

  -- all were made where those before were, and the last one
  pub dialled-one : (address : List ℕ) (cs : List (Call C)) (x : Call C) → AreAt address (calls_told cs) → IfSome x.told (λ t. t.address ≡ address) → AreAt address (calls_told (cs ++ x ∷ []))
  dialled-one address cs x before last =
      subst (AreAt address) (sym (told-one cs x)) (All-append (λ t. t.address ≡ address) (calls_told cs) (option_to_list x.told) before (by x.told last))
    where
      by : (told : Option Connection) → IfSome told (λ t. t.address ≡ address) → AreAt address (option_to_list told)
      by None last = All-nil (λ t. t.address ≡ address)
      by (Some t) last = All-cons (λ t. t.address ≡ address) t [] last (All-nil (λ t. t.address ≡ address))

  pub count-one : (cs : List (Call C)) (x : Call C) → count_faults (cs ++ x ∷ []) ≡ count_faults cs + one_if (fails x && is_fault x)
  count-one [] x = omega arith
  count-one (c ∷ cs) x = let more = count-one cs x in omega (arith, more)

  pub any-one : (cs : List (Call C)) (x : Call C) → list_any fails (cs ++ x ∷ []) ≡ (list_any fails cs || fails x)
  any-one [] x = or-none (fails x)
    where
      or-none : (b : Bool) → (b || false) ≡ b
      or-none true = refl
      or-none false = refl
  any-one (c ∷ cs) x = by (fails c) (any-one cs x)
    where
      by : (b : Bool) → list_any fails (cs ++ x ∷ []) ≡ (list_any fails cs || fails x) → (b || list_any fails (cs ++ x ∷ [])) ≡ ((b || list_any fails cs) || fails x)
      by true e = refl
      by false e = e

  pub fails-one : (others : List (Done C)) (d : Done C) → list_any has_failed (others ++ d ∷ []) ≡ (list_any has_failed others || has_failed d)
  fails-one [] d = or-none (has_failed d)
    where
      or-none : (b : Bool) → (b || false) ≡ b
      or-none true = refl
      or-none false = refl
  fails-one (x ∷ others) d = by (has_failed x) (fails-one others d)
    where
      by : (b : Bool) → list_any has_failed (others ++ d ∷ []) ≡ (list_any has_failed others || has_failed d)
          → (b || list_any has_failed (others ++ d ∷ [])) ≡ ((b || list_any has_failed others) || has_failed d)
      by true e = refl
      by false e = e

  -- one call more
  pub calls-one : (c : Client) (cs : List (Call C)) (x : Call C) → AreCalls c cs → IsCall (left_by c cs) x → AreCalls c (cs ++ x ∷ [])
  calls-one c [] x are is = (is.first, is.was_cut, is.on_one, tt)
  calls-one c (y ∷ cs) x (first, was_cut, on_one, more) is =
      (first, was_cut, on_one, calls-one (past_after c (steps_in (done_in y))) cs x more (subst (λ c. IsCall c x) (past-more c y cs) is))
    where
      past-more : (c : Client) (y : Call C) (cs : List (Call C)) → left_by c (y ∷ cs) ≡ left_by (past_after c (steps_in (done_in y))) cs
      past-more c y cs = ap (past_after c) (steps-append (done_in y) (all_done cs)) ∙ past-append c (steps_in (done_in y)) (steps_in (all_done cs))
