-- The query of the rows that an aggregate tells of.
use Rattle.std.specs.Prelude.{ℕ, List, [], ◌∷◌, ◌++◌, length, take, drop, map, fold, bytes_eq, Option, Some, None, codes, if◌then◌else◌}
use Rattle.std.specs.List.{list_all, list_any}
use Rattle.std.specs.Prelude.{slice_get}
use Rattle.sr_cell.specs.declared.table.Column.{Column}
use Rattle.sr_cell.specs.declared.table.Table.{Table}
use Rattle.sr_cell.specs.Names.{table_named}
use Rattle.sr_token.specs.Tokens.{is_blank}
use Rattle.sr_grammar.specs.declared.statement.Name.{Name}
use Rattle.sr_agg.specs.declared.statement.Listed.{Listed}
use Rattle.sr_agg.specs.declared.statement.Listed.TheVariants.{Plain, Rows, Of}
use Rattle.sr_agg.specs.declared.statement.Aggregate.{Aggregate}

-- ---- what it lists

-- a reference as it is spelled, in lower case
abbrev pub spelling : Name → List ℕ
spelling n = in_table n.table
  where
    in_table : Option (List ℕ) → List ℕ
    in_table None = n.column
    in_table (Some table) = table ++ (codes "." ++ n.column)

abbrev pub spellings_of : Listed → List (List ℕ)
spellings_of (Plain n) = spelling n ∷ []
spellings_of Rows = []
spellings_of (Of function place n) = spelling n ∷ []

abbrev pub spellings : List Listed → List (List ℕ)
spellings [] = []
spellings (x ∷ items) = spellings_of x ++ spellings items

abbrev pub with_text : List (List ℕ) → List ℕ → List (List ℕ)
with_text texts text = if list_any (bytes_eq text) texts then texts else texts ++ text ∷ []

-- each text once, in the order of their coming
abbrev pub once : List (List ℕ) → List (List ℕ)
once texts = fold with_text [] texts

abbrev pub group_spellings : Aggregate → List (List ℕ)
group_spellings a = of_names a.groups
  where
    of_names : Option (List Name) → List (List ℕ)
    of_names None = []
    of_names (Some names) = map spelling names

-- how many columns group the rows; a spelling that is repeated counts once
abbrev pub group_count : Aggregate → ℕ
group_count a = length (once (group_spellings a))

-- the columns that group, and then those of the items
abbrev pub listed : Aggregate → List (List ℕ)
listed a = once (group_spellings a ++ spellings a.items)

-- ---- its text

-- a column with the name of its table
abbrev pub with_table : List ℕ → Option Column → List ℕ
with_table table None = codes "*"
with_table table (Some column) = table ++ (codes "." ++ column.name)

abbrev pub key_of_table : Option Table → List ℕ
key_of_table None = codes "*"
key_of_table (Some t) = with_table t.name (slice_get t.columns t.key)

abbrev pub table_numbered : List Table → Option ℕ → Option Table
table_numbered schema None = None
table_numbered schema (Some number) = slice_get schema number

abbrev pub table_of : List Table → Option (List ℕ) → Option Table
table_of schema None = None
table_of schema (Some name) = table_numbered schema (table_named schema name)

abbrev pub behind_comma : List (List ℕ) → List ℕ
behind_comma [] = []
behind_comma (text ∷ texts) = codes ", " ++ (text ++ behind_comma texts)

-- The spellings; or where there is none the key of the first table, or * if that is unknown.
abbrev pub list_text : List Table → Option (List ℕ) → List (List ℕ) → List ℕ
list_text schema table [] = key_of_table (table_of schema table)
list_text schema table (text ∷ texts) = text ++ behind_comma texts

-- without the blanks at its end
abbrev pub trimmed : List ℕ → List ℕ
trimmed [] = []
trimmed (b ∷ text) = if list_all is_blank (b ∷ text) then [] else b ∷ trimmed text

abbrev pub cut : Option ℕ → List ℕ → List ℕ
cut None text = text
cut (Some place) text = take place text

-- The list, and the aggregate's own text from FROM to the last token of its query; behind that come blanks alone.
abbrev pub inner_text : List Table → List ℕ → Aggregate → List ℕ
inner_text schema text a = codes "SELECT " ++ (list_text schema a.table (listed a) ++ (codes " " ++ trimmed (drop a.from (cut a.until text))))
