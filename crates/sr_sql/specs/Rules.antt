-- Reading what is said of a column, one rule after the other.
use Rattle.std.specs.Prelude.{false, Option, Some, None, codes}
use Rattle.sr_grammar.specs.declared.statement.ColumnRule.{ColumnRule}
use Rattle.sr_grammar.specs.declared.statement.ColumnRule.TheVariants.{PrimaryKey, NotNull, Null, Check}
use Rattle.sr_grammar.specs.Columns as grammar
use Rattle.sr_grammar_laws.specs.Reading.{Reader, and_then as ◌>>=◌, nothing, branch}
use Rattle.sr_grammar_laws.specs.Readers.{key, in_parens, check, may}
use Rattle.sr_sql.specs.declared.columns.Left.{Left}

abbrev pub left_seen : Left → grammar.Left
left_seen left = record { primary = left.primary; null = left.null; check = left.check }

-- a rule that may still stand, or none
unfoldable pub rule : grammar.Left → Reader (Option ColumnRule)
rule left =
    branch (may left.primary (codes "PRIMARY")) (do
      _ ← key (codes "PRIMARY")
      _ ← key (codes "KEY")
      nothing (Some PrimaryKey))
    (branch (may left.null (codes "NOT")) (do
      _ ← key (codes "NOT")
      _ ← key (codes "NULL")
      nothing (Some NotNull))
    (branch (may left.null (codes "NULL")) (do
      _ ← key (codes "NULL")
      nothing (Some Null))
    (branch (may left.check (codes "CHECK")) (do
      _ ← key (codes "CHECK")
      range ← in_parens check
      nothing (Some (Check range)))
    (nothing None))))

-- which rules may stand behind one
abbrev pub without : grammar.Left → ColumnRule → grammar.Left
without left PrimaryKey = record left { primary = false }
without left NotNull = record left { null = false }
without left Null = record left { null = false }
without left (Check range) = record left { check = false }
