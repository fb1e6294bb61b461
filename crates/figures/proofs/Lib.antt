mod TradeParts
