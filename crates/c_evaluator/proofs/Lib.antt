mod CodeLaws
mod FaultLaws
mod RowLaws
mod TurnLaws
