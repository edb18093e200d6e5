-- What a text is refused for, where reading stops.
use Rattle.std.specs.Prelude.{ℕ, List, if◌then◌else◌}
use Rattle.sr_cell.specs.declared.fault.Fault.{Fault}
use Rattle.sr_cell.specs.declared.fault.Why.{Why}
use Rattle.sr_cell.specs.declared.fault.Why.TheVariants.{BadToken, Grammar, Deep}
use Rattle.sr_cell.specs.declared.list.No.{No}
use Rattle.sr_cell.specs.declared.list.No.TheVariants.{Refused, NoMemory}
use Rattle.sr_grammar.specs.Tokens.{Bad, Tok, of_kind}
use Rattle.sr_grammar.specs.Says.{place_in}
use Rattle.sr_grammar_laws.specs.Reading.{next_is}
use Rattle.sr_sql.specs.declared.stop.Stop.{Stop}
use Rattle.sr_sql.specs.declared.stop.Stop.TheVariants as stop

-- what is no token is the fault wherever it stands
abbrev pub fault_at : Why → List ℕ → List Tok → Fault
fault_at why text rest = record { why = if next_is (of_kind Bad) rest then BadToken else why; at = place_in text rest }

abbrev pub refusal : Stop → List ℕ → List Tok → No Fault
refusal stop.Grammar text rest = Refused (fault_at Grammar text rest)
refusal stop.Deep text rest = Refused (fault_at Deep text rest)
refusal stop.Memory text rest = NoMemory
