-- The parts of statements, printed.
use Rattle.std.proofs.Common.{◌≡◌, ℕ, List, [], ◌∷◌, ◌++◌, inl, inr, Option, Some, None, refl, sym, ap, subst, ◌∙◌}
use Rattle.std.specs.Prelude.{codes, false}
use Rattle.std.proofs.lemmas.Option.{same_Some}
use Rattle.sr_grammar.specs.Tokens.{Key, Mark, Tok}
use Rattle.sr_grammar.specs.Words.{name_of, reference_of}
use Rattle.sr_grammar.specs.Rules.{One, Nothing, ◌>>=◌ as ◌▸◌}
use Rattle.sr_grammar.specs.Conditions.{KEY, MARK, ListOf, InParens, IsValue, IsReference, IsCond}
use Rattle.sr_grammar.specs.Statements.{Where, IsWhere, filter_of, IsListed, IsJoin, IsColumnName, IsColumnNames, IsRow, IsSet}
use Rattle.sr_grammar.specs.Printed.{token, key, mark, name, commas, parens, literal, reference, condition, where_tokens, listed, join, column_names, row, set}
use Rattle.sr_print.proofs.AgainTokens.{Writable, joined, cut, Printed, Again, at_end, in_list, parens_again}
use Rattle.sr_print.proofs.AgainWords.{name_again, name_one, writable_name, value_again, reference_again}
use Rattle.sr_print.proofs.AgainConditions.{cond_again}

-- a WHERE, which is printed with another place where the statement does not hold it
abbrev pub placed : ℕ → Option Where → Option Where
placed place None = None
placed place (Some filter) = Some (record filter { place = place })

pub where_again : (n place : ℕ) (filter : Option Where) (x : List Tok) → Writable x → IsWhere n filter x
    → IsWhere n (placed place filter) (where_tokens place (filter_of filter)) × Writable (where_tokens place (filter_of filter))
where_again n place None x w h = (inr (refl, refl), refl)
where_again n place (Some filter) x w h = elim h [
  | inl k ↦ (
      let s = cut x k.1 k.2 w k.3 in
      let m = k.4 in
      let t = cut k.1 m.1 m.2 s.0 m.3 in
      let c = m.5 in
      let u = cut m.2 c.1 c.2 t.1 c.3 in
      let e : filter.cond ≡ c.0 = ap (λ f. f.cond) (same_Some filter k.0 k.5.0 ∙ c.5.0) in
      let r = cond_again n filter.cond c.1 u.0 (subst (λ z. IsCond n z c.1) (sym e) c.4) in (
        inl (at_end (KEY (codes "WHERE") ▸ λ at. IsCond n ▸ λ c. Nothing (record { place = at; cond = c })) _ Some (record filter { place = place }) _ refl (
          place,
          token Key (codes "WHERE") place ∷ [],
          condition filter.cond,
          refl,
          (token Key (codes "WHERE") place, refl, refl),
          at_end (IsCond n) _ (λ c. record { place = place; cond = c }) filter.cond _ refl r.0,
        )),
        r.1,
      ))
  | inr k ↦ absurd (let e = k.0 in cc e)
]

-- ---- SELECT

pub listed_again : Again IsListed (λ l. listed l.all l.list)
listed_again l x w h = elim h [
  | inl k ↦ subst (Printed IsListed (λ l. listed l.all l.list)) (sym k.5.0) (
    inl (0, mark (codes "*") ∷ [], [], refl, (mark (codes "*"), refl, refl), (refl, refl)),
    refl,
  )
  | inr k ↦ (
      let s = cut x k.1 k.2 w k.3 in
      let all = in_list IsReference reference reference_again k.0 k.1 s.0 k.4 in
      subst (Printed IsListed (λ l. listed l.all l.list)) (sym k.5.0) (
        inr (at_end (ListOf (MARK (codes ",")) IsReference) _ (λ list. record { all = false; list = list }) k.0 _ refl all.0),
        all.1,
      ))
]

pub join_again : Again IsJoin join
join_again j x w h =
    let s = cut x h.1 h.2 w h.3 in
    let table = h.5 in
    let t = cut h.2 table.1 table.2 s.1 table.3 in
    let on = table.5 in
    let u = cut table.2 on.1 on.2 t.1 on.3 in
    let left = on.5 in
    let v = cut on.2 left.1 left.2 u.1 left.3 in
    let is = left.5 in
    let y = cut left.2 is.1 is.2 v.1 is.3 in
    let right = is.5 in
    let z = cut is.2 right.1 right.2 y.1 right.3 in
    let l = reference_again left.0 left.1 v.0 left.4 in
    let r = reference_again right.0 right.1 z.0 right.4 in
    let n = name_again table.0 table.1 t.0 table.4 in
    subst (Printed IsJoin join) (sym right.5.0) (
      (
        0,
        key (codes "JOIN") ∷ [],
        name table.0.text table.0.place ∷ token Key (codes "ON") on.0 ∷ (reference left.0 ++ mark (codes "=") ∷ reference right.0),
        refl,
        inr (key (codes "JOIN"), refl, refl),
        (
          table.0,
          name table.0.text table.0.place ∷ [],
          token Key (codes "ON") on.0 ∷ (reference left.0 ++ mark (codes "=") ∷ reference right.0),
          refl,
          name_one table.0.text table.0.place,
          (
            on.0,
            token Key (codes "ON") on.0 ∷ [],
            reference left.0 ++ mark (codes "=") ∷ reference right.0,
            refl,
            (token Key (codes "ON") on.0, refl, refl),
            (
              left.0,
              reference left.0,
              mark (codes "=") ∷ reference right.0,
              refl,
              l.0,
              (
                0,
                mark (codes "=") ∷ [],
                reference right.0,
                refl,
                (mark (codes "="), refl, refl),
                at_end IsReference _ (λ right. record { table = table.0.text; table_place = table.0.place; left = left.0; right = right; place = on.0 }) right.0 _ refl r.0,
              ),
            ),
          ),
        ),
      ),
      writable_name table.0.text table.0.place (token Key (codes "ON") on.0 ∷ (reference left.0 ++ mark (codes "=") ∷ reference right.0)) n (joined (reference left.0) (mark (codes "=") ∷ reference right.0) l.1 r.1),
    )

-- ---- INSERT and UPDATE

pub column_name_again : Again IsColumnName reference
column_name_again n x w h =
    let s = cut x h.1 h.2 w h.3 in
    let a = h.0 in
    subst (Printed IsColumnName reference) (sym h.5.0) (
      at_end (One name_of) _ (λ a. reference_of a None) a _ refl (name_one a.text a.place),
      writable_name a.text a.place [] (name_again a h.1 s.0 h.4) refl,
    )

pub column_names_again : Again IsColumnNames column_names
column_names_again names x w h = elim h [
  | inl k ↦ (
      let e = k.5.5.5.0 ∙ k.5.4.5.5.0 in
      let r = parens_again (ListOf (MARK (codes ",")) IsColumnName) (commas reference) (in_list IsColumnName reference column_name_again) names x w k in
      let some = subst (Printed (InParens (ListOf (MARK (codes ",")) IsColumnName)) (λ names. parens (commas reference names))) e r in
      subst (Printed IsColumnNames column_names) (sym e) (inl some.0, some.1))
  | inr k ↦ subst (Printed IsColumnNames column_names) (sym k.0) (inr (refl, refl), refl)
]

pub row_again : Again IsRow row
row_again r x w h =
    let s = cut x h.1 h.2 w h.3 in
    let all = h.5 in
    let t = cut h.2 all.1 all.2 s.1 all.3 in
    let l = in_list IsValue literal value_again all.0 all.1 t.0 all.4 in
    subst (Printed IsRow row) (sym all.5.5.0) (
      (
        h.0,
        token Mark (codes "(") h.0 ∷ [],
        commas literal all.0 ++ mark (codes ")") ∷ [],
        refl,
        (token Mark (codes "(") h.0, refl, refl),
        (all.0, commas literal all.0, mark (codes ")") ∷ [], refl, l.0, (0, mark (codes ")") ∷ [], [], refl, (mark (codes ")"), refl, refl), (refl, refl))),
      ),
      joined (commas literal all.0) (mark (codes ")") ∷ []) l.1 refl,
    )

pub set_again : Again IsSet set
set_again a x w h =
    let s = cut x h.1 h.2 w h.3 in
    let is = h.5 in
    let t = cut h.2 is.1 is.2 s.1 is.3 in
    let value = is.5 in
    let u = cut is.2 value.1 value.2 t.1 value.3 in
    let n = column_name_again h.0 h.1 s.0 h.4 in
    let v = value_again value.0 value.1 u.0 value.4 in
    subst (Printed IsSet set) (sym value.5.0) (
      (
        h.0,
        reference h.0,
        mark (codes "=") ∷ literal value.0,
        refl,
        n.0,
        (0, mark (codes "=") ∷ [], literal value.0, refl, (mark (codes "="), refl, refl), at_end IsValue _ (λ value. record { name = h.0; value = value }) value.0 _ refl v.0),
      ),
      joined (reference h.0) (mark (codes "=") ∷ literal value.0) n.1 v.1,
    )
