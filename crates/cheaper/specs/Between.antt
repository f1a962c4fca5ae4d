-- What stands between the code and the definitions to be believed: laws and theorems tie the two together.
-- Computed: what the cheaper leaves and what the service of both answers, as it is computed.
pub mod Computed
