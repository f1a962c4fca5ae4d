-- What stands between the code and the definitions to be believed: laws and theorems tie the two together.
-- Computed: the claim and its reduction as they are computed. Further: when a list goes
-- further than the minimal reduction.
pub mod Computed
pub mod Further
