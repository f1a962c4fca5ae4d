-- What stands between the code and the definitions to be believed: laws and theorems tie the two together.
-- Computed: the minimal reduction as it is computed. Refused: a refusal, with its zeros.
pub mod Computed
pub mod Refused
