use Rattle.run.proofs.Loaded.{rows_law}
use Rattle.run.proofs.Spelled.{sheets_spell_law}
use Rattle.run.proofs.ReadBack.{spelled_rows_law, one_account_law}
use Rattle.run.proofs.Promise.{margin_law, statement_law}
use Rattle.run.proofs.Layers.{refusals_law}
use Rattle.run.proofs.laws.run_laws_stand.Goals as goal

pub returns : goal.returns
returns c =
    record {
      rows_law = rows_law;
      sheets_spell_law = sheets_spell_law;
      spelled_rows_law = spelled_rows_law;
      one_account_law = one_account_law;
      margin_law = margin_law;
      statement_law = statement_law;
      refusals_law = refusals_law;
    }
